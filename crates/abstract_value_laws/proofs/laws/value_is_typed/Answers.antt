use Rattle.abstract_value_laws.proofs.Concrete.{value_is_typed}
use Rattle.abstract_value_laws.proofs.laws.value_is_typed.Goals as goal

pub returns : goal.returns
returns g c ctx cap env val ty h = value_is_typed g.B.Base.algebra ctx cap env val ty h
