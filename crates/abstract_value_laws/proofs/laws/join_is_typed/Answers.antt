use Rattle.abstract_value_laws.proofs.Typing.{join_is_typed}
use Rattle.abstract_value_laws.proofs.laws.join_is_typed.Goals as goal

pub returns : goal.returns
returns g c = join_is_typed g.B.Base.algebra g.met.B.Base.laws
