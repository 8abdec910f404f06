use Rattle.domain_affine_element_laws.proofs.Opened.{opens_same as lemma}
use Rattle.domain_affine_element_laws.proofs.laws.opens_same.Goals as goal

pub returns : goal.returns
returns c = lemma
