use Rattle.std.proofs.Common.{IsTrue}
use Rattle.support_tail_fixpoint.proofs.Groups.{group_absorption_orders}
use Rattle.support_tail_fixpoint.proofs.laws.group_absorption_orders.Goals as goal

pub returns : goal.returns
returns g c = λ fits. group_absorption_orders (λ i x. IsTrue (fits i x))
