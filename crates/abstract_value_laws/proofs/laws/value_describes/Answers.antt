use Rattle.abstract_value_laws.proofs.Concrete.{value_describes}
use Rattle.abstract_value_laws.proofs.laws.value_describes.Goals as goal

pub returns : goal.returns
returns g c = value_describes g.B.Base.algebra g.met.B.Base.laws
