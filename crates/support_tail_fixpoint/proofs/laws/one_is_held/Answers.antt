use Rattle.support_tail_fixpoint.proofs.Groups.{one_is_held}
use Rattle.support_tail_fixpoint.proofs.laws.one_is_held.Goals as goal

pub returns : goal.returns
returns g c = one_is_held
