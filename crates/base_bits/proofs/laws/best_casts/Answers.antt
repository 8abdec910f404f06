use Rattle.base_bits.proofs.Best.{best_casts as lemma}
use Rattle.base_bits.proofs.laws.best_casts.Goals as goal

pub returns : goal.returns
returns c = lemma
