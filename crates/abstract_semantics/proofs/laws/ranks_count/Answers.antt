use Rattle.abstract_semantics.proofs.Ranks.{ranks_count}
use Rattle.abstract_semantics.proofs.laws.ranks_count.Goals as goal

pub returns : goal.returns
returns c = ranks_count
