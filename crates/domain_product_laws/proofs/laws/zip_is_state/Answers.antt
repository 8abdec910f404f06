use Rattle.domain_product_laws.proofs.Kept.{zip_is_state}
use Rattle.domain_product_laws.proofs.laws.zip_is_state.Goals as goal

pub returns : goal.returns
returns g c = zip_is_state g.A.Base.algebra g.B.Base.algebra g.met.A.Base.laws g.met.B.Base.laws
