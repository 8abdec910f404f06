use Rattle.abstract_map_laws.proofs.Joining.{absorbs_on}
use Rattle.abstract_map_laws.proofs.laws.absorbs_on.Goals as goal

pub returns : goal.returns
returns g c = absorbs_on g.B.Base.algebra g.met.B.Base.laws
