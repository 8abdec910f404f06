use Rattle.analysis_transfer_laws.proofs.Alone.{reinterpretations_exist}
use Rattle.analysis_transfer_laws.proofs.laws.reinterpretations_exist.Goals as goal

pub returns : goal.returns
returns g c = reinterpretations_exist g.D.B.Base.algebra g.met.D.B.Base.laws g.D.B.Base.CAP (g.D.PlainDomain.elements c.args.domain.now) (g.D.PlainDomain.meaning c.args.domain.now)
