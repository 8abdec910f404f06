use Rattle.abstract_map_laws.proofs.Reading.{access_fits}
use Rattle.abstract_map_laws.proofs.laws.access_fits.Goals as goal

pub returns : goal.returns
returns g c = access_fits g.B.Base.algebra g.met.B.Base.laws
