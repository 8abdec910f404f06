use Rattle.abstract_value_laws.proofs.Absorbing.{absorbs_on}
use Rattle.abstract_value_laws.proofs.laws.absorbs_on.Goals as goal

pub returns : goal.returns
returns g c = absorbs_on g.B.Base.algebra g.met.B.Base.laws
