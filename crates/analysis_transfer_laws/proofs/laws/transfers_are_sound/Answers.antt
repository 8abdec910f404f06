use Rattle.analysis_transfer_laws.proofs.Sound.{transfers_are_sound}
use Rattle.analysis_transfer_laws.proofs.laws.transfers_are_sound.Goals as goal

pub returns : goal.returns
returns g c = transfers_are_sound g.D.B.Base.algebra g.met.D.B.Base.laws g.D.B.Base.CAP (g.D.PlainDomain.elements c.args.domain.now) (g.D.PlainDomain.meaning c.args.domain.now)
