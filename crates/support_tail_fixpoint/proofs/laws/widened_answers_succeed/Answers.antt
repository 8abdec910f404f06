use Rattle.std.proofs.Common.{IsTrue}
use Rattle.support_tail_fixpoint.proofs.Answered.{widened_answers_succeed}
use Rattle.support_tail_fixpoint.proofs.laws.widened_answers_succeed.Goals as goal

pub returns : goal.returns
returns g c = λ fits. widened_answers_succeed (λ x. IsTrue (fits x))
