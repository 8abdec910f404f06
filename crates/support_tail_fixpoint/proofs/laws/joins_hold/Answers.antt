use Rattle.std.proofs.Common.{IsTrue}
use Rattle.support_tail_fixpoint.proofs.Groups.{joins_hold}
use Rattle.support_tail_fixpoint.proofs.laws.joins_hold.Goals as goal

pub returns : goal.returns
returns g c = λ fits holds. joins_hold (λ i x. IsTrue (fits i x)) (λ x. IsTrue (holds x))
