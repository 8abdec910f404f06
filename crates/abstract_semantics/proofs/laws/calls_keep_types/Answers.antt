use Rattle.abstract_semantics.proofs.Plain.{calls_keep_types}
use Rattle.abstract_semantics.proofs.laws.calls_keep_types.Goals as goal

pub returns : goal.returns
returns g c = calls_keep_types g.B.Base.algebra g.met.B.Base.laws
