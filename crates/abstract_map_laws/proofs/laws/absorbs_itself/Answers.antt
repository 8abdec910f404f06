use Rattle.abstract_map_laws.proofs.Joining.{absorbs_itself}
use Rattle.abstract_map_laws.proofs.laws.absorbs_itself.Goals as goal

pub returns : goal.returns
returns g c = absorbs_itself g.B.Base.algebra g.met.B.Base.laws
