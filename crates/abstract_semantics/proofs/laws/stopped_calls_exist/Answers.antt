use Rattle.abstract_semantics.proofs.Exists.{stopped_calls_exist}
use Rattle.abstract_semantics.proofs.laws.stopped_calls_exist.Goals as goal

pub returns : goal.returns
returns g c = stopped_calls_exist g.B.Base.algebra g.met.B.Base.laws
