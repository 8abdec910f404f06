use Rattle.analysis_transfer_laws.proofs.Keeping.{transfers_keep_the_laws}
use Rattle.analysis_transfer_laws.proofs.laws.transfers_keep_the_laws.Goals as goal

pub returns : goal.returns
returns g c = transfers_keep_the_laws g.D.B.Base.algebra g.met.D.B.Base.laws g.D.B.Base.CAP (g.D.PlainDomain.elements c.args.domain.now) (g.D.PlainDomain.meaning c.args.domain.now)
