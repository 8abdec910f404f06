use Rattle.abstract_map_laws.proofs.Widening.{widen_lists}
use Rattle.abstract_map_laws.proofs.laws.widen_lists.Goals as goal

pub returns : goal.returns
returns g c = widen_lists g.B.Base.algebra g.met.B.Base.laws
