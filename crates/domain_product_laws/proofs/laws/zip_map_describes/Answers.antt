use Rattle.domain_product_laws.proofs.Kept.{zip_map_describes}
use Rattle.domain_product_laws.proofs.laws.zip_map_describes.Goals as goal

pub returns : goal.returns
returns g c = zip_map_describes g.A.Base.algebra g.B.Base.algebra g.met.A.Base.laws g.met.B.Base.laws
