use Rattle.analysis_transfer_laws.proofs.Keeping.{evaluations_give_states}
use Rattle.analysis_transfer_laws.proofs.laws.evaluations_give_states.Goals as goal

pub returns : goal.returns
returns g c = evaluations_give_states g.D.B.Base.algebra g.met.D.B.Base.laws g.D.B.Base.CAP (g.D.PlainDomain.elements c.args.domain.now) (g.D.PlainDomain.meaning c.args.domain.now)
