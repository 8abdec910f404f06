use Rattle.abstract_value_laws.proofs.Concrete.{value_lists}
use Rattle.abstract_value_laws.proofs.laws.value_lists.Goals as goal

pub returns : goal.returns
returns g c = value_lists g.B.Base.algebra g.met.B.Base.laws
