use Rattle.support_tail_fixpoint.proofs.Groups.{tests_tell}
use Rattle.support_tail_fixpoint.proofs.laws.tests_tell.Goals as goal

pub returns : goal.returns
returns g c = tests_tell
