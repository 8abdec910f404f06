use Rattle.domain_affine_element_laws.proofs.Tracked.{valuations_are_whole as lemma}
use Rattle.domain_affine_element_laws.proofs.laws.valuations_are_whole.Goals as goal

pub returns : goal.returns
returns c = lemma
