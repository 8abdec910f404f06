use Rattle.abstract_value_laws.proofs.Joining.{join_shapes}
use Rattle.abstract_value_laws.proofs.laws.join_shapes.Goals as goal

pub returns : goal.returns
returns g c = join_shapes g.B.Base.algebra g.met.B.Base.laws
