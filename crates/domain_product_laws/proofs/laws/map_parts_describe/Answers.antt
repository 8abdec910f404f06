use Rattle.domain_product_laws.proofs.Kept.{map_parts_describe}
use Rattle.domain_product_laws.proofs.laws.map_parts_describe.Goals as goal

pub returns : goal.returns
returns g c = map_parts_describe g.A.Base.algebra g.B.Base.algebra
