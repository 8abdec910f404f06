use Rattle.domain_affine_element_laws.proofs.Elements.{join_is_least as lemma}
use Rattle.domain_affine_element_laws.proofs.laws.join_is_least.Goals as goal

pub returns : goal.returns
returns g c = lemma g.T.Tracking.valuation
