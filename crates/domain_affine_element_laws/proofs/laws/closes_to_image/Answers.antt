use Rattle.domain_affine_element_laws.proofs.Closed.{closes_to_image as lemma}
use Rattle.domain_affine_element_laws.proofs.laws.closes_to_image.Goals as goal

pub returns : goal.returns
returns c = lemma
