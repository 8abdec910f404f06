use Rattle.eval_group_turns.proofs.Turns.{ranks_are_bounded}
use Rattle.eval_group_turns.proofs.laws.ranks_are_bounded.Goals as goal

pub returns : goal.returns
returns g c = ranks_are_bounded g.B.Base.algebra g.met.B.Base.laws
