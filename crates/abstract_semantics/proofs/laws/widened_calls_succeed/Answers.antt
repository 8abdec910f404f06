use Rattle.abstract_semantics.proofs.Plain.{widened_calls_succeed}
use Rattle.abstract_semantics.proofs.laws.widened_calls_succeed.Goals as goal

pub returns : goal.returns
returns g c = widened_calls_succeed g.B.Base.algebra g.met.B.Base.laws
