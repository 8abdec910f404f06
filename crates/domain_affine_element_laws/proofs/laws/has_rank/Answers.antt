use Rattle.domain_affine_element_laws.proofs.Elements.{has_rank as lemma}
use Rattle.domain_affine_element_laws.proofs.laws.has_rank.Goals as goal

pub returns : goal.returns
returns c = lemma
