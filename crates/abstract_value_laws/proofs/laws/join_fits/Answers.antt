use Rattle.abstract_value_laws.proofs.Joining.{join_fits}
use Rattle.abstract_value_laws.proofs.laws.join_fits.Goals as goal

pub returns : goal.returns
returns g c = join_fits g.B.Base.algebra g.met.B.Base.laws
