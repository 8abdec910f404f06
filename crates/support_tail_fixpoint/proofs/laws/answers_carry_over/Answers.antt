use Rattle.std.proofs.Common.{IsTrue}
use Rattle.support_tail_fixpoint.proofs.Answered.{answers_carry_over}
use Rattle.support_tail_fixpoint.proofs.laws.answers_carry_over.Goals as goal

pub returns : goal.returns
returns g c = λ fits. answers_carry_over (λ x. IsTrue (fits x))
