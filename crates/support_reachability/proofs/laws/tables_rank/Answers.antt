use Rattle.support_reachability.proofs.Ranks.{ranks_fall}
use Rattle.support_reachability.proofs.laws.tables_rank.Goals as goal

pub returns : goal.returns
returns c = ranks_fall
