use Rattle.domain_product_laws.proofs.Kept.{parts_fit}
use Rattle.domain_product_laws.proofs.laws.parts_fit.Goals as goal

pub returns : goal.returns
returns g c = parts_fit g.A.Base.algebra g.B.Base.algebra
