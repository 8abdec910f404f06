use Rattle.support_tail_fixpoint.proofs.Driving.{drivers_follow_the_rule}
use Rattle.support_tail_fixpoint.proofs.laws.drivers_follow_the_rule.Goals as goal

pub returns : goal.returns
returns g c = drivers_follow_the_rule
