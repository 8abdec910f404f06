use Rattle.std.proofs.Common.{IsTrue}
use Rattle.support_tail_fixpoint.proofs.Groups.{held_are_such}
use Rattle.support_tail_fixpoint.proofs.laws.held_are_such.Goals as goal

pub returns : goal.returns
returns g c = λ fits. held_are_such (λ i x. IsTrue (fits i x))
