use Rattle.std.proofs.Common.{IsTrue}
use Rattle.support_tail_fixpoint.proofs.Answered.{answers_fit}
use Rattle.support_tail_fixpoint.proofs.laws.answers_fit.Goals as goal

pub returns : goal.returns
returns g c = λ fits_args fits_out. answers_fit (λ x. IsTrue (fits_args x)) (λ x. IsTrue (fits_out x))
