use Rattle.abstract_map_laws.proofs.Writing.{update_lists}
use Rattle.abstract_map_laws.proofs.laws.update_lists.Goals as goal

pub returns : goal.returns
returns g c = update_lists g.B.Base.algebra g.met.B.Base.laws
