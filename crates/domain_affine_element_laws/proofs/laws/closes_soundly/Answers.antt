use Rattle.domain_affine_element_laws.proofs.Closed.{closes_soundly as lemma}
use Rattle.domain_affine_element_laws.proofs.laws.closes_soundly.Goals as goal

pub returns : goal.returns
returns c = lemma
