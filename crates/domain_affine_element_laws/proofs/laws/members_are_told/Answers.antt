use Rattle.domain_affine_element_laws.proofs.Membership.{members_are_told as lemma}
use Rattle.domain_affine_element_laws.proofs.laws.members_are_told.Goals as goal

pub returns : goal.returns
returns c = lemma
