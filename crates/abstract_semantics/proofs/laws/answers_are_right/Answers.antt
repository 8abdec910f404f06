use Rattle.abstract_semantics.proofs.Right.{answers_are_right}
use Rattle.abstract_semantics.proofs.laws.answers_are_right.Goals as goal

pub returns : goal.returns
returns g c = answers_are_right g.B.Base.algebra g.met.B.Base.laws
