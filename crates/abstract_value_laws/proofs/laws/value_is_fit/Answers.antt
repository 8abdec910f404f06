use Rattle.abstract_value_laws.proofs.Concrete.{value_is_fit}
use Rattle.abstract_value_laws.proofs.laws.value_is_fit.Goals as goal

pub returns : goal.returns
returns g c = value_is_fit g.B.Base.algebra g.met.B.Base.laws
