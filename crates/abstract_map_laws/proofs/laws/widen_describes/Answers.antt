use Rattle.abstract_map_laws.proofs.Widening.{widen_describes}
use Rattle.abstract_map_laws.proofs.laws.widen_describes.Goals as goal

pub returns : goal.returns
returns g c = widen_describes g.B.Base.algebra g.met.B.Base.laws
