use Rattle.abstract_map_laws.proofs.Fitting.{join_fits}
use Rattle.abstract_map_laws.proofs.laws.join_fits.Goals as goal

pub returns : goal.returns
returns g c = join_fits g.B.Base.algebra g.met.B.Base.laws
