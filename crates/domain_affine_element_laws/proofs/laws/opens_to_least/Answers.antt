use Rattle.domain_affine_element_laws.proofs.Opened.{opens_to_least as lemma}
use Rattle.domain_affine_element_laws.proofs.laws.opens_to_least.Goals as goal

pub returns : goal.returns
returns c = lemma
