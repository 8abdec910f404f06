use Rattle.base_interval.proofs.Best.{least_casts as lemma}
use Rattle.base_interval.proofs.laws.least_casts.Goals as goal

pub returns : goal.returns
returns c = lemma
