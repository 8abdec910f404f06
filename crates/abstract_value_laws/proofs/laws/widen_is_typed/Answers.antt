use Rattle.abstract_value_laws.proofs.Typing.{widen_is_typed}
use Rattle.abstract_value_laws.proofs.laws.widen_is_typed.Goals as goal

pub returns : goal.returns
returns g c = widen_is_typed g.B.Base.algebra g.met.B.Base.laws
