use Rattle.std.proofs.Common.{IsTrue}
use Rattle.support_tail_fixpoint.proofs.Ending.{widened_answers_exist}
use Rattle.support_tail_fixpoint.proofs.laws.widened_answers_exist.Goals as goal

pub returns : goal.returns
returns g c = λ fits. widened_answers_exist (λ x. IsTrue (fits x))
