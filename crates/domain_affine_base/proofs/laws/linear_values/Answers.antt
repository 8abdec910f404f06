use Rattle.domain_affine_base.proofs.Exact.{linear_values as lemma}
use Rattle.domain_affine_base.proofs.laws.linear_values.Goals as goal

pub returns : goal.returns
returns c = lemma
