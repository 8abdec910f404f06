use Rattle.domain_affine_element_laws.proofs.Closed.{closes_same as lemma}
use Rattle.domain_affine_element_laws.proofs.laws.closes_same.Goals as goal

pub returns : goal.returns
returns c = lemma
