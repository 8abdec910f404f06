use Rattle.std.proofs.Common.{IsTrue}
use Rattle.support_tail_fixpoint.proofs.Absorbed.{last_arguments_absorb}
use Rattle.support_tail_fixpoint.proofs.laws.last_arguments_absorb.Goals as goal

pub returns : goal.returns
returns g c = λ fits. last_arguments_absorb (λ x. IsTrue (fits x))
