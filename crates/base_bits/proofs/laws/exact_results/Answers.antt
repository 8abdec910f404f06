use Rattle.base_bits.proofs.Best.{exact_results as lemma}
use Rattle.base_bits.proofs.laws.exact_results.Goals as goal

pub returns : goal.returns
returns c = lemma
