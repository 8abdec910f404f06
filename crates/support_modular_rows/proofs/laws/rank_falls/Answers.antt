use Rattle.support_modular_rows.proofs.Ranks.{rank_falls}
use Rattle.support_modular_rows.proofs.laws.rank_falls.Goals as goal

pub returns : goal.returns
returns c = rank_falls
