use Rattle.domain_product_laws.proofs.Kept.{parts_list}
use Rattle.domain_product_laws.proofs.laws.parts_list.Goals as goal

pub returns : goal.returns
returns g c = parts_list g.A.Base.algebra g.B.Base.algebra
