use Rattle.abstract_map_laws.proofs.Joining.{join_describes}
use Rattle.abstract_map_laws.proofs.laws.join_describes.Goals as goal

pub returns : goal.returns
returns g c = join_describes g.B.Base.algebra g.met.B.Base.laws
