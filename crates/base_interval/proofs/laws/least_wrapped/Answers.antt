use Rattle.base_interval.proofs.Best.{least_wrapped as lemma}
use Rattle.base_interval.proofs.laws.least_wrapped.Goals as goal

pub returns : goal.returns
returns c = lemma
