use Rattle.base_bits.proofs.Best.{best_bit_by_bit as lemma}
use Rattle.base_bits.proofs.laws.best_bit_by_bit.Goals as goal

pub returns : goal.returns
returns c = lemma
