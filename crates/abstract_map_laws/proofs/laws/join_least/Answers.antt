use Rattle.abstract_map_laws.proofs.Joining.{join_least}
use Rattle.abstract_map_laws.proofs.laws.join_least.Goals as goal

pub returns : goal.returns
returns g c = join_least g.B.Base.algebra g.met.B.Base.laws
