use Rattle.abstract_semantics.proofs.ExactCalls.{calls_are_the_meaning}
use Rattle.abstract_semantics.proofs.laws.calls_are_the_meaning.Goals as goal

pub returns : goal.returns
returns g c = calls_are_the_meaning g.B.Base.algebra g.met.B.Base.laws
