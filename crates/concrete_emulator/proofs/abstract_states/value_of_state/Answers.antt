use Rattle.std.proofs.Common.{ap, sym, ◌∙◌, subst}
use Rattle.std.proofs.lemmas.Result.{IfOk-weaker}
use Rattle.base_concrete.specs.Meaning.{concrete}
use Rattle.spec_ir.specs.Views.{specification}
use Rattle.semantics_values.specs.Types.{environment_of}
use Rattle.semantics_values.specs.Views.{state}
use Rattle.abstract_value_laws.specs.OfValues.{ValueFits, of_value}
use Rattle.abstract_value.specs.View.{abs}
use Rattle.concrete_calls.specs.Laws.{room}
use Rattle.concrete_emulator.proofs.Calls.{state_fits, state_shown}
use Rattle.concrete_emulator.proofs.abstract_states.value_of_state.Goals as goal

pub of_value-requires : goal.of_value-requires
of_value-requires c =
    let spec = specification c.args.spec.now in
    record { value = subst (ValueFits (environment_of spec)) (sym c.in_ok-value.ensures) (state_fits spec c.args.machine c.requires.accepted c.requires.machine (state c.args.s.now) c.requires.typed) }

pub returns : goal.returns
returns c =
    let spec = specification c.args.spec.now in
    let same = ap (of_value concrete tt room (environment_of spec)) c.in_ok-value.ensures in
    IfOk-weaker c.of_value.result _ _ (λ r is. state_shown spec c.args.machine c.requires.accepted c.requires.machine (state c.args.s.now) (abs r) c.requires.typed (is ∙ same)) c.of_value.ensures.value
