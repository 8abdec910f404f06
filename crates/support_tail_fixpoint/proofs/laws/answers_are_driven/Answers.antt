use Rattle.support_tail_fixpoint.proofs.Remains.{answers_are_driven}
use Rattle.support_tail_fixpoint.proofs.laws.answers_are_driven.Goals as goal

pub returns : goal.returns
returns g c = answers_are_driven
