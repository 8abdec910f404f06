use Rattle.base_kset.proofs.Best.{exact_comparisons as lemma}
use Rattle.base_kset.proofs.laws.exact_comparisons.Goals as goal

pub returns : goal.returns
returns c = lemma
