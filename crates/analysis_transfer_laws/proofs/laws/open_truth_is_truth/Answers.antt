use Rattle.analysis_transfer_laws.proofs.OpenRuns.{open_truth_is_truth}
use Rattle.analysis_transfer_laws.proofs.laws.open_truth_is_truth.Goals as goal

pub returns : goal.returns
returns g c = open_truth_is_truth g.D.B.Base.algebra (g.D.PlainDomain.elements c.args.domain.now)
