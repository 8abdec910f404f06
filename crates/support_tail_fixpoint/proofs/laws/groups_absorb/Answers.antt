use Rattle.std.proofs.Common.{IsTrue}
use Rattle.support_tail_fixpoint.proofs.Groups.{groups_absorb}
use Rattle.support_tail_fixpoint.proofs.laws.groups_absorb.Goals as goal

pub returns : goal.returns
returns g c = λ fits. groups_absorb (λ i x. IsTrue (fits i x))
