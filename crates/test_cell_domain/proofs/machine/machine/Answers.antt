use Rattle.std.proofs.Common.{◌≡◌, true, subst}
use Rattle.std.specs.Prelude.{IfOk}
use Rattle.spec_ir.specs.Views.{specification}
use Rattle.domain_laws.specs.States.{has_states}
use Rattle.test_cell_domain.proofs.Machines.{given_states}
use Rattle.test_cell_domain.proofs.machine.machine.Goals as goal

pub returns-in-Ok : goal.returns-in-Ok
returns-in-Ok c = subst (λ r. IfOk r (λ spec. has_states (specification spec) ≡ true)) c.in-Ok.is (given_states c.as_bytes-source.result.now c.specification_of.result c.specification_of.ensures)
