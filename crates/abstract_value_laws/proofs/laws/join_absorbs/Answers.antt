use Rattle.abstract_value_laws.proofs.Joining.{join_absorbs}
use Rattle.abstract_value_laws.proofs.laws.join_absorbs.Goals as goal

pub returns : goal.returns
returns g c = join_absorbs g.B.Base.algebra g.met.B.Base.laws
