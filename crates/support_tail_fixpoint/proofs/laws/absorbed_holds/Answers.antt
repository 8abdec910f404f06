use Rattle.std.proofs.Common.{IsTrue}
use Rattle.support_tail_fixpoint.proofs.Groups.{absorbed_holds}
use Rattle.support_tail_fixpoint.proofs.laws.absorbed_holds.Goals as goal

pub returns : goal.returns
returns g c = λ fits holds. absorbed_holds (λ i x. IsTrue (fits i x)) (λ x. IsTrue (holds x))
