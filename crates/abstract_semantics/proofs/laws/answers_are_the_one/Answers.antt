use Rattle.abstract_semantics.proofs.Right.{answers_are_the_one}
use Rattle.abstract_semantics.proofs.laws.answers_are_the_one.Goals as goal

pub returns : goal.returns
returns g c = answers_are_the_one g.B.Base.algebra g.met.B.Base.laws
