use Rattle.base_interval.proofs.Best.{least_results as lemma}
use Rattle.base_interval.proofs.laws.least_results.Goals as goal

pub returns : goal.returns
returns c = lemma
