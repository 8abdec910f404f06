use Rattle.std.proofs.Common.{ℕ, List, [], map, ap, sym, ◌∙◌, subst, refl}
use Rattle.base_trait.specs.declared.uses.Stamp.{Stamp}
use Rattle.base_concrete.specs.Meaning.{concrete}
use Rattle.spec_ir.specs.Views.{specification}
use Rattle.semantics_values.specs.Types.{environment_of}
use Rattle.semantics_values.specs.Values.{vals}
use Rattle.semantics_values.specs.Views.{val}
use Rattle.semantics.specs.Runs.{meaning}
use Rattle.semantics_laws.proofs.Turns.{meanings_have_types}
use Rattle.abstract_value_laws.specs.Abs.{Abs}
use Rattle.abstract_value_laws.specs.OfValues.{ValuesFit, of_value}
use Rattle.concrete_calls.specs.Laws.{AreArgumentsFor, room}
use Rattle.concrete_calls.specs.Calls.{IsCall, IsMeantBy}
use Rattle.concrete_calls.proofs.Typed.{are_types, arguments_for, values_fit}
use Rattle.concrete_function_calls.specs.Calls.{value}
use Rattle.concrete_function_calls.proofs.Values.{spent_end, value_end}
use Rattle.concrete_function_calls.proofs.calls.end_of_call.Goals as goal

pub standing-requires : goal.standing-requires
standing-requires c =
    let spec = specification c.args.spec.now in
    let call = c.requires.call in
    let fit = values_fit spec c.requires.accepted (map val c.args.args.items) call.function.params (are_types spec c.requires.accepted c.args.number call.function call.there) call.typed in
    record { fit = subst (λ xs. ValuesFit (environment_of spec) (vals (map val xs))) (sym c.deref.ensures.value) fit }

pub evaluate_call-requires : goal.evaluate_call-requires
evaluate_call-requires c =
    let spec = specification c.args.spec.now in
    let call = c.requires.call in
    let vs = map val c.args.args.items in
    let same = c.in_ok-args.ensures ∙ ap (λ xs. map (of_value concrete tt room (environment_of spec)) (map val xs)) c.deref.ensures.value in
    record {
      accepted = c.requires.accepted;
      code = c.in_ok-cir.ensures;
      call = subst (λ (xs : List (Abs ℕ Stamp)). IsCall spec c.args.number xs) (sym same) (record { function = call.function; values = vs; are = arguments_for spec c.requires.accepted c.args.number call.function vs call.there call.typed });
    }

pub returns-in-Done : goal.returns-in-Done
returns-in-Done c =
    let spec = specification c.args.spec.now in
    let call = c.requires.call in
    let vs = map val c.args.args.items in
    let same = c.in_ok-args.ensures ∙ ap (λ xs. map (of_value concrete tt room (environment_of spec)) (map val xs)) c.deref.ensures.value in
    let are = subst (λ (xs : List (Abs ℕ Stamp)). AreArgumentsFor spec c.args.number call.function xs vs) (sym same) (arguments_for spec c.requires.accepted c.args.number call.function vs call.there call.typed) in
    let meant = subst (λ y. IsMeantBy spec call.function y (meaning spec 0 c.args.turns c.args.number vs [])) c.in-Done.is (c.in_ok-value.ensures call.function vs are) in
    let typed = meanings_have_types spec 0 c.args.turns c.args.number call.function vs [] c.requires.accepted call.there call.typed refl in
    ap value c.in_ok-value_in-in-Done.ensures ∙ value_end spec call.function c.in-Done.value (meaning spec 0 c.args.turns c.args.number vs []) call.written typed meant

pub returns : goal.returns
returns c =
    let spec = specification c.args.spec.now in
    let call = c.requires.call in
    let vs = map val c.args.args.items in
    let same = c.in_ok-args.ensures ∙ ap (λ xs. map (of_value concrete tt room (environment_of spec)) (map val xs)) c.deref.ensures.value in
    let are = subst (λ (xs : List (Abs ℕ Stamp)). AreArgumentsFor spec c.args.number call.function xs vs) (sym same) (arguments_for spec c.requires.accepted c.args.number call.function vs call.there call.typed) in
    spent_end spec call.function (meaning spec 0 c.args.turns c.args.number vs []) (subst (λ y. IsMeantBy spec call.function y (meaning spec 0 c.args.turns c.args.number vs [])) c.in-OutOfFuel.is (c.in_ok-value.ensures call.function vs are))
