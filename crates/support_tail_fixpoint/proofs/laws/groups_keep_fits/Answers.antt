use Rattle.std.proofs.Common.{IsTrue}
use Rattle.support_tail_fixpoint.proofs.Groups.{groups_keep_fits}
use Rattle.support_tail_fixpoint.proofs.laws.groups_keep_fits.Goals as goal

pub returns : goal.returns
returns g c = λ fits. groups_keep_fits (λ i x. IsTrue (fits i x))
