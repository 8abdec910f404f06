use Rattle.domain_product_laws.proofs.Kept.{parts_describe}
use Rattle.domain_product_laws.proofs.laws.parts_describe.Goals as goal

pub returns : goal.returns
returns g c = parts_describe g.A.Base.algebra g.B.Base.algebra
