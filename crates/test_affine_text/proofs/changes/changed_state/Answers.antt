use Rattle.std.proofs.Common.{subst}
use Rattle.std.specs.Prelude.{IfOk}
use Rattle.spec_ir.specs.Views.{specification}
use Rattle.domain_laws.specs.States.{state_type}
use Rattle.domain_laws.specs.Values.{IsStateValue}
use Rattle.domain_affine_base.specs.Meaning.{affine}
use Rattle.abstract_value.specs.View.{abs}
use Rattle.test_affine_text.proofs.changes.changed_state.Goals as goal

pub returns-in-Ok : goal.returns-in-Ok
returns-in-Ok c =
    subst (λ cells. IfOk c.state_of.result (λ v. IsStateValue affine cells 256 (state_type (specification c.args.setting.now.spec.now)) (abs v))) c.requires.ready.tracked c.state_of.ensures
