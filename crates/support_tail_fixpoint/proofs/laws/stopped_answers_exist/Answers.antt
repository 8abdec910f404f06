use Rattle.support_tail_fixpoint.proofs.Ending.{stopped_answers_exist}
use Rattle.support_tail_fixpoint.proofs.laws.stopped_answers_exist.Goals as goal

pub returns : goal.returns
returns g c = stopped_answers_exist
