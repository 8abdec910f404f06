use Rattle.domain_affine_element_laws.proofs.Tracked.{few_are_tracked as lemma}
use Rattle.domain_affine_element_laws.proofs.laws.few_are_tracked.Goals as goal

pub returns : goal.returns
returns c = lemma
