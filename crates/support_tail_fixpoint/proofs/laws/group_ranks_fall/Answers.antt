use Rattle.std.proofs.Common.{IsTrue}
use Rattle.support_tail_fixpoint.proofs.Ranks.{group_ranks_fall}
use Rattle.support_tail_fixpoint.proofs.laws.group_ranks_fall.Goals as goal

pub returns : goal.returns
returns g c = λ fits. group_ranks_fall (λ i x. IsTrue (fits i x))
