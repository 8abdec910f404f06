use Rattle.std.proofs.Common.{subst}
use Rattle.std.specs.Prelude.{IfOk}
use Rattle.spec_ir.specs.Views.{specification}
use Rattle.semantics_laws.specs.Accepted.{IsAccepted}
use Rattle.test_evaluator.proofs.Libraries.{given_accepted}
use Rattle.test_evaluator.proofs.cases.library.Goals as goal

pub returns-in-Ok : goal.returns-in-Ok
returns-in-Ok c = subst (λ r. IfOk r (λ spec. IsAccepted (specification spec))) c.in-Ok.is (given_accepted c.args.source.now c.specification_of.result c.specification_of.ensures)
