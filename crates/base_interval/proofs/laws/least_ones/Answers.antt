use Rattle.base_interval.proofs.Best.{least_ones as lemma}
use Rattle.base_interval.proofs.laws.least_ones.Goals as goal

pub returns : goal.returns
returns c = lemma
