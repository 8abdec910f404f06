use Rattle.fixpoint_theory.specs.Views.{listings}
use Rattle.analysis_transfer.specs.Analysis.{problem}
use Rattle.analysis_transfer.specs.Instance.{is_analysed}
use Rattle.analysis_cuts.proofs.Truth.{closed_is_true, from_one}
use Rattle.analysis_cuts.proofs.tables.check.Goals as goal

pub returns-clause-runs : goal.returns-clause-runs
returns-clause-runs g c =
    let it = c.args.analysis.now in
    let ready = c.requires.ready in
    let d = it.domain.now in
    let base = g.D.B.Base.algebra in
    let cap = g.D.B.Base.CAP in
    from_one c.check.result
    (λ v accepted same. closed_is_true base g.met.D.B.Base.laws cap (g.D.Domain.elements d) (g.D.Domain.meaning d) (g.met.D.Domain.laws d (problem it).spec ready.made).elements (g.D.Domain.pieces d) (g.met.D.Domain.cut_laws d (problem it).spec ready.made) (problem it)
    (is_analysed base g.met.D.B.Base.laws cap (g.D.Domain.elements d) (g.D.Domain.meaning d) (g.D.Domain.is_for d) it (g.met.D.Domain.laws d (problem it).spec ready.made) ready) (listings g.D.Domain.view c.args.table.now) c.requires.table (accepted.0 same))
    c.check.ensures.accepted
