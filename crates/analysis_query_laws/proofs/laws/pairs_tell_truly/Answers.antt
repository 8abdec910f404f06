use Rattle.analysis_query_laws.proofs.Pairs.{pairs_tell_truly}
use Rattle.analysis_query_laws.proofs.laws.pairs_tell_truly.Goals as goal

pub returns : goal.returns
returns g c = pairs_tell_truly (g.A.PlainDomain.elements c.args.first.now) (g.B.PlainDomain.elements c.args.second.now)
