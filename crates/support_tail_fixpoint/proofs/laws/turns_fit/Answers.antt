use Rattle.std.proofs.Common.{IsTrue}
use Rattle.support_tail_fixpoint.proofs.Fitted.{turns_fit}
use Rattle.support_tail_fixpoint.proofs.laws.turns_fit.Goals as goal

pub returns : goal.returns
returns g c = λ fits. turns_fit (λ x. IsTrue (fits x))
