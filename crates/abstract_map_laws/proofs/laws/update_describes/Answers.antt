use Rattle.abstract_map_laws.proofs.Writing.{update_describes}
use Rattle.abstract_map_laws.proofs.laws.update_describes.Goals as goal

pub returns : goal.returns
returns g c = update_describes g.B.Base.algebra g.met.B.Base.laws
