use Rattle.domain_affine_element_laws.proofs.Elements.{submodules_hold as lemma}
use Rattle.domain_affine_element_laws.proofs.laws.submodules_hold.Goals as goal

pub returns : goal.returns
returns g c = lemma g.T.Tracking.valuation
