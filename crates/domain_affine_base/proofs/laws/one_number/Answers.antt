use Rattle.domain_affine_base.proofs.Exact.{one_number as lemma}
use Rattle.domain_affine_base.proofs.laws.one_number.Goals as goal

pub returns : goal.returns
returns c = lemma
