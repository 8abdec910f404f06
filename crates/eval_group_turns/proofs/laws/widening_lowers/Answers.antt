use Rattle.eval_group_turns.proofs.Turns.{widening_lowers}
use Rattle.eval_group_turns.proofs.laws.widening_lowers.Goals as goal

pub returns : goal.returns
returns g c = widening_lowers g.B.Base.algebra g.met.B.Base.laws
