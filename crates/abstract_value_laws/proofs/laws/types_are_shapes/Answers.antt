use Rattle.abstract_value_laws.proofs.Typing.{types_are_shapes}
use Rattle.abstract_value_laws.proofs.laws.types_are_shapes.Goals as goal

pub returns : goal.returns
returns g c = types_are_shapes g.B.Base.algebra
