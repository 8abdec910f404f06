use Rattle.abstract_value_laws.proofs.Widening.{widen_shapes}
use Rattle.abstract_value_laws.proofs.laws.widen_shapes.Goals as goal

pub returns : goal.returns
returns g c = widen_shapes g.B.Base.algebra g.met.B.Base.laws
