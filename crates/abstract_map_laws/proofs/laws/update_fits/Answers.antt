use Rattle.abstract_map_laws.proofs.Fitting.{update_fits}
use Rattle.abstract_map_laws.proofs.laws.update_fits.Goals as goal

pub returns : goal.returns
returns g c = update_fits g.B.Base.algebra g.met.B.Base.laws
