use Rattle.domain_product_laws.proofs.Kept.{zip_shapes}
use Rattle.domain_product_laws.proofs.laws.zip_shapes.Goals as goal

pub returns : goal.returns
returns g c = zip_shapes g.A.Base.algebra g.B.Base.algebra g.met.A.Base.laws g.met.B.Base.laws
