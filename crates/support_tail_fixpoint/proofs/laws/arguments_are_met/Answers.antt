use Rattle.std.proofs.Common.{IsTrue}
use Rattle.support_tail_fixpoint.proofs.Absorbed.{arguments_are_met}
use Rattle.support_tail_fixpoint.proofs.laws.arguments_are_met.Goals as goal

pub returns : goal.returns
returns g c = λ fits. arguments_are_met (λ x. IsTrue (fits x))
