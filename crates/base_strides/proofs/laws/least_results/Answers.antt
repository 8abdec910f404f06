use Rattle.base_strides.proofs.Best.{least_results as lemma}
use Rattle.base_strides.proofs.laws.least_results.Goals as goal

pub returns : goal.returns
returns c = lemma
