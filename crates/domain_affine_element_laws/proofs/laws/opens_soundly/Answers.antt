use Rattle.domain_affine_element_laws.proofs.Opened.{opens_soundly as lemma}
use Rattle.domain_affine_element_laws.proofs.laws.opens_soundly.Goals as goal

pub returns : goal.returns
returns c = lemma
