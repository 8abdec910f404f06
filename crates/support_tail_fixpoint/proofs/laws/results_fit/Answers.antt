use Rattle.std.proofs.Common.{IsTrue}
use Rattle.support_tail_fixpoint.proofs.Parts.{results_fit}
use Rattle.support_tail_fixpoint.proofs.laws.results_fit.Goals as goal

pub returns : goal.returns
returns g c = λ fits. results_fit (λ x. IsTrue (fits x))
