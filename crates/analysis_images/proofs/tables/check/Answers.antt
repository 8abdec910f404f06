use Rattle.fixpoint_theory.specs.Views.{listings}
use Rattle.analysis_transfer.specs.Analysis.{problem}
use Rattle.analysis_images.proofs.Truth.{from_one, true_where_closed}
use Rattle.analysis_images.proofs.tables.check.Goals as goal

pub returns-clause-runs : goal.returns-clause-runs
returns-clause-runs g c =
    let it = c.args.analysis.now in
    let ready = c.requires.ready in
    from_one c.check.result
    (λ v accepted same. true_where_closed g.D.B.Base.algebra g.met.D.B.Base.laws g.D.B.Base.CAP (g.D.Domain.elements it.domain.now) (g.D.Domain.meaning it.domain.now) (g.D.Domain.is_for it.domain.now) it
    (g.met.D.Domain.laws it.domain.now (problem it).spec ready.made) ready (listings g.D.Domain.view c.args.table.now) c.requires.table (accepted.0 same))
    c.check.ensures.accepted
