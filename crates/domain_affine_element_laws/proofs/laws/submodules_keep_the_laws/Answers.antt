use Rattle.domain_affine_element_laws.proofs.Elements.{submodules_keep_the_laws as lemma}
use Rattle.domain_affine_element_laws.proofs.laws.submodules_keep_the_laws.Goals as goal

pub returns : goal.returns
returns g c = lemma g.T.Tracking.valuation
