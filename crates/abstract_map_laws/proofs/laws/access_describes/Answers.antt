use Rattle.abstract_map_laws.proofs.Reading.{access_describes}
use Rattle.abstract_map_laws.proofs.laws.access_describes.Goals as goal

pub returns : goal.returns
returns g c = access_describes g.B.Base.algebra g.met.B.Base.laws
