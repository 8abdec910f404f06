use Rattle.std.proofs.Common.{IsTrue}
use Rattle.support_tail_fixpoint.proofs.Parts.{leaves_are_part}
use Rattle.support_tail_fixpoint.proofs.laws.leaves_are_part.Goals as goal

pub returns : goal.returns
returns g c = λ fits. leaves_are_part (λ x. IsTrue (fits x))
