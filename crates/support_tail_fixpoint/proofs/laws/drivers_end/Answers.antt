use Rattle.std.proofs.Common.{IsTrue}
use Rattle.support_tail_fixpoint.proofs.DriverEndings.{drivers_end}
use Rattle.support_tail_fixpoint.proofs.laws.drivers_end.Goals as goal

pub returns : goal.returns
returns g c = λ fits. drivers_end (λ x. IsTrue (fits x))
