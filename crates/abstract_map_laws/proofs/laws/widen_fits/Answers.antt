use Rattle.abstract_map_laws.proofs.Fitting.{widen_fits}
use Rattle.abstract_map_laws.proofs.laws.widen_fits.Goals as goal

pub returns : goal.returns
returns g c = widen_fits g.B.Base.algebra g.met.B.Base.laws
