use Rattle.base_bits.proofs.Best.{best_joins as lemma}
use Rattle.base_bits.proofs.laws.best_joins.Goals as goal

pub returns : goal.returns
returns c = lemma
