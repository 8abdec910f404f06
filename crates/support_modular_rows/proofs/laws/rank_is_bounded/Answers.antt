use Rattle.support_modular_rows.proofs.Ranks.{rank_is_bounded}
use Rattle.support_modular_rows.proofs.laws.rank_is_bounded.Goals as goal

pub returns : goal.returns
returns c = rank_is_bounded
