use Rattle.domain_affine_base.proofs.Exact.{stands_by_value as lemma}
use Rattle.domain_affine_base.proofs.laws.stands_by_value.Goals as goal

pub returns : goal.returns
returns c = lemma
