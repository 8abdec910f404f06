use Rattle.abstract_semantics.proofs.Exists.{widened_calls_exist}
use Rattle.abstract_semantics.proofs.laws.widened_calls_exist.Goals as goal

pub returns : goal.returns
returns g c = widened_calls_exist g.B.Base.algebra g.met.B.Base.laws
