use Rattle.abstract_value_laws.proofs.Joining.{join_lists}
use Rattle.abstract_value_laws.proofs.laws.join_lists.Goals as goal

pub returns : goal.returns
returns g c = join_lists g.B.Base.algebra g.met.B.Base.laws
