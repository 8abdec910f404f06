use Rattle.eval_group_turns.proofs.Turns.{arguments_are_told}
use Rattle.eval_group_turns.proofs.laws.arguments_are_told.Goals as goal

pub returns : goal.returns
returns g c = arguments_are_told g.B.Base.algebra g.met.B.Base.laws
