use Rattle.std.proofs.Common.{IsTrue}
use Rattle.support_tail_fixpoint.proofs.Answered.{turns_are_evaluated}
use Rattle.support_tail_fixpoint.proofs.laws.turns_are_evaluated.Goals as goal

pub returns : goal.returns
returns g c = λ fits before. turns_are_evaluated (λ x. IsTrue (fits x)) (λ x y. IsTrue (before x y))
