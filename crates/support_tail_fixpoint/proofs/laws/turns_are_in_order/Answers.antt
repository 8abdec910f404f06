use Rattle.support_tail_fixpoint.proofs.Ordered.{turns_are_in_order}
use Rattle.support_tail_fixpoint.proofs.laws.turns_are_in_order.Goals as goal

pub returns : goal.returns
returns g c = turns_are_in_order
