use Rattle.domain_affine_element_laws.proofs.Opened.{one_is_opened as lemma}
use Rattle.domain_affine_element_laws.proofs.laws.one_is_opened.Goals as goal

pub returns : goal.returns
returns c = lemma
