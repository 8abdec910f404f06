use Rattle.support_tail_fixpoint.proofs.Remains.{turns_go_on}
use Rattle.support_tail_fixpoint.proofs.laws.turns_go_on.Goals as goal

pub returns : goal.returns
returns g c = turns_go_on
