use Rattle.abstract_value_laws.proofs.Absorbing.{absorbs_describes}
use Rattle.abstract_value_laws.proofs.laws.absorbs_describes.Goals as goal

pub returns : goal.returns
returns g c = absorbs_describes g.B.Base.algebra g.met.B.Base.laws
