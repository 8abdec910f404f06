use Rattle.std.proofs.Common.{◌≡◌, ◌<◌, ◌^◌, true, length, subst}
use Rattle.std.specs.Prelude.{IfOk}
use Rattle.spec_ir.specs.Views.{specification}
use Rattle.domain_laws.specs.States.{has_states, state_type}
use Rattle.test_affine_domain.proofs.Machines.{given_few, given_states}
use Rattle.test_affine_domain.proofs.machine.checked.Goals as goal

pub returns-in-Ok-clause-states : goal.returns-in-Ok-clause-states
returns-in-Ok-clause-states c = subst (λ r. IfOk r (λ spec. has_states (specification spec) ≡ true)) c.in-Ok.is (given_states c.args.source.now c.specification_of.result c.specification_of.ensures)

pub returns-in-Ok-clause-few : goal.returns-in-Ok-clause-few
returns-in-Ok-clause-few c = subst (λ r. IfOk r (λ spec. length (state_type (specification spec)).fields < 2 ^ 32)) c.in-Ok.is (given_few c.args.source.now c.specification_of.result c.specification_of.ensures)
