use Rattle.domain_affine_element_laws.proofs.Closed.{enters_soundly as lemma}
use Rattle.domain_affine_element_laws.proofs.laws.enters_soundly.Goals as goal

pub returns : goal.returns
returns c = lemma
