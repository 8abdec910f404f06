use Rattle.std.proofs.Common.{◌<◌, ◌^◌, length, subst}
use Rattle.std.specs.Prelude.{IfOk}
use Rattle.spec_ir.specs.Views.{specification}
use Rattle.semantics_laws.specs.Accepted.{IsAccepted}
use Rattle.domain_laws.specs.States.{state_type}
use Rattle.test_analysis_cases.proofs.Machines.{given_accepted, given_few}
use Rattle.test_analysis_cases.proofs.machine.accepted.Goals as goal

pub returns-in-Ok-clause-accepted : goal.returns-in-Ok-clause-accepted
returns-in-Ok-clause-accepted c = subst (λ r. IfOk r (λ spec. IsAccepted (specification spec))) c.in-Ok.is (given_accepted c.args.source.now c.specification_of.result c.specification_of.ensures)

pub returns-in-Ok-clause-few : goal.returns-in-Ok-clause-few
returns-in-Ok-clause-few c = subst (λ r. IfOk r (λ spec. length (state_type (specification spec)).fields < 2 ^ 32)) c.in-Ok.is (given_few c.args.source.now c.specification_of.result c.specification_of.ensures)
