use Rattle.abstract_value_laws.proofs.Absorbing.{absorbs_itself}
use Rattle.abstract_value_laws.proofs.laws.absorbs_itself.Goals as goal

pub returns : goal.returns
returns g c = absorbs_itself g.B.Base.algebra g.met.B.Base.laws
