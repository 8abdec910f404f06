use Rattle.abstract_map_laws.proofs.Ranks.{rank_height}
use Rattle.abstract_map_laws.proofs.laws.rank_height.Goals as goal

pub returns : goal.returns
returns g c = rank_height g.B.Base.algebra g.met.B.Base.laws
