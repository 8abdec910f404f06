use Rattle.abstract_map_laws.proofs.Reading.{access_lists}
use Rattle.abstract_map_laws.proofs.laws.access_lists.Goals as goal

pub returns : goal.returns
returns g c = access_lists g.B.Base.algebra g.met.B.Base.laws
