use Rattle.support_modular_rows.proofs.OneRank.{has_one_rank}
use Rattle.support_modular_rows.proofs.laws.has_one_rank.Goals as goal

pub returns : goal.returns
returns c = has_one_rank
