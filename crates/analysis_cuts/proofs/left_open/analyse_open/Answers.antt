use Rattle.fixpoint_theory.specs.Views.{listings}
use Rattle.fixpoint_open_tables.specs.Endings.{ends_in}
use Rattle.analysis_transfer.specs.Analysis.{problem}
use Rattle.analysis_transfer.specs.Instance.{is_analysed}
use Rattle.analysis_cuts.proofs.Truth.{from_both, open_is_true}
use Rattle.analysis_cuts.proofs.left_open.analyse_open.Goals as goal

pub returns-clause-runs : goal.returns-clause-runs
returns-clause-runs g c =
    let it = c.args.analysis.now in
    let base = g.D.B.Base.algebra in
    let elements = g.D.Domain.elements it.domain.now in
    let meaning = g.D.Domain.meaning it.domain.now in
    let cap = g.D.B.Base.CAP in
    from_both c.analyse.result
    (λ r closed sound. open_is_true base g.met.D.B.Base.laws cap elements meaning (g.met.D.Domain.laws it.domain.now (problem it).spec c.requires.ready.made).elements (g.D.Domain.pieces it.domain.now) (g.met.D.Domain.cut_laws it.domain.now (problem it).spec c.requires.ready.made) (problem it)
    (is_analysed base g.met.D.B.Base.laws cap elements meaning (g.D.Domain.is_for it.domain.now) it (g.met.D.Domain.laws it.domain.now (problem it).spec c.requires.ready.made) c.requires.ready)
    (listings g.D.Domain.view r.report.table) (ends_in r.endings) closed sound)
    c.analyse.ensures.closed c.analyse.ensures.sound
