use Rattle.domain_product_laws.proofs.Kept.{parts_shape}
use Rattle.domain_product_laws.proofs.laws.parts_shape.Goals as goal

pub returns : goal.returns
returns g c = parts_shape _ _ _ _
