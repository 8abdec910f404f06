use Rattle.base_strides.proofs.Best.{least_joins as lemma}
use Rattle.base_strides.proofs.laws.least_joins.Goals as goal

pub returns : goal.returns
returns c = lemma
