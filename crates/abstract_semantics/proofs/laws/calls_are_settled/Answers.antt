use Rattle.abstract_semantics.proofs.Alone.{calls_are_settled}
use Rattle.abstract_semantics.proofs.laws.calls_are_settled.Goals as goal

pub returns : goal.returns
returns g c = calls_are_settled g.B.Base.algebra g.met.B.Base.laws
