use Rattle.analysis_query_laws.proofs.Holding.{claims_hold}
use Rattle.analysis_query_laws.proofs.laws.claims_hold.Goals as goal

pub returns : goal.returns
returns g c = claims_hold g.D.B.Base.algebra (g.D.PlainDomain.elements c.args.domain.now)
