use Rattle.domain_product_laws.proofs.Kept.{map_parts_fit}
use Rattle.domain_product_laws.proofs.laws.map_parts_fit.Goals as goal

pub returns : goal.returns
returns g c = map_parts_fit g.A.Base.algebra g.B.Base.algebra
