use Rattle.analysis_query_laws.proofs.Slices.{slices_hold_chains}
use Rattle.analysis_query_laws.proofs.laws.slices_hold_chains.Goals as goal

pub returns : goal.returns
returns g c = slices_hold_chains g.D.B.Base.algebra (g.D.PlainDomain.elements c.args.domain.now)
