use Rattle.std.proofs.Common.{map, option_map, ap, sym, ◌∙◌}
use Rattle.std.proofs.lemmas.Result.{IfOk-weaker}
use Rattle.spec_ir.specs.Views.{specification}
use Rattle.semantics_values.specs.Views.{val}
use Rattle.concrete_function_calls.specs.Arguments.{borrowed}
use Rattle.concrete_function_calls.proofs.Typing.{call_is, called_is_call, no_call}
use Rattle.concrete_function_calls.proofs.calls.call_by_words.Goals as goal

pub end_of_call-requires-clause-call : goal.end_of_call-requires-clause-call
end_of_call-requires-clause-call c =
    called_is_call (specification c.args.spec.now) c.args.fun.now (borrowed c.args.texts.now) c.in-Some.number (map val c.in-Some.args.items)
    (sym c.in_ok-number.ensures ∙ ap (option_map (λ call. (call.0, map val call.1.items))) c.in-Some.is)

pub returns-in-Some : goal.returns-in-Some
returns-in-Some c =
    let is = call_is (specification c.args.spec.now) c.args.turns c.args.fun.now (borrowed c.args.texts.now) c.in-Some.number (map val c.in-Some.args.items)
    (sym c.in_ok-number.ensures ∙ ap (option_map (λ call. (call.0, map val call.1.items))) c.in-Some.is) in
    IfOk-weaker c.end_of_call.result _ _ (λ end ends. ends ∙ sym is) c.end_of_call.ensures

pub returns-in-None : goal.returns-in-None
returns-in-None c =
    sym (no_call (specification c.args.spec.now) c.args.turns c.args.fun.now (borrowed c.args.texts.now) (sym c.in_ok-number.ensures ∙ ap (option_map (λ call. (call.0, map val call.1.items))) c.in-None.is))
