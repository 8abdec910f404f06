use Rattle.domain_product_laws.proofs.Kept.{zip_lists}
use Rattle.domain_product_laws.proofs.laws.zip_lists.Goals as goal

pub returns : goal.returns
returns g c = zip_lists g.A.Base.algebra g.B.Base.algebra g.met.A.Base.laws g.met.B.Base.laws
