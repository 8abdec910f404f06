use Rattle.domain_affine_element_laws.proofs.Membership.{absorbs_within as lemma}
use Rattle.domain_affine_element_laws.proofs.laws.absorbs_within.Goals as goal

pub returns : goal.returns
returns c = lemma
