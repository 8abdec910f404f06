use Rattle.abstract_value_laws.proofs.Widening.{widen_fits}
use Rattle.abstract_value_laws.proofs.laws.widen_fits.Goals as goal

pub returns : goal.returns
returns g c = widen_fits g.B.Base.algebra g.met.B.Base.laws
