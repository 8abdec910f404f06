use Rattle.std.proofs.Common.{◌≡◌, ◌<◌, ◌≤◌, suc, None, Some, get_or, length, option_map, map, ap, sym, subst, ◌∙◌, arith}
use Rattle.std.proofs.lemmas.List.{take_all}
use Rattle.std.proofs.lemmas.Result.{IfOk-weaker}
use Rattle.semantics_values.specs.Values.{vals}
use Rattle.abstract_value_laws.specs.Abs.{cases}
use Rattle.abstract_value.specs.Constructors.{spread}
use Rattle.abstract_value.specs.View.{abs, case_of, cases_of}
use Rattle.abstract_value.proofs.Falling.{fields_fall, value_falls}
use Rattle.abstract_value.proofs.Places.{at_itself}
use Rattle.abstract_value.proofs.Views.{abs_Data}
use Rattle.abstract_value.proofs.Weights.{cases_weight, weight}
use Rattle.concrete_calls.specs.Values.{case_in, value_in}
use Rattle.concrete_calls.proofs.Views.{none_here, some_here, values_there}
use Rattle.concrete_calls.proofs.values.+value_in.Goals as goal

pub value_in-returns-in-Data : goal.value_in-returns-in-Data
value_in-returns-in-Data t c =
    let is = ap (λ x. value_in (abs x)) c.in-Data.is ∙ ap value_in (abs_Data c.in-Data.ty c.in-Data.cases) in
    IfOk-weaker c.case_in.result _ _ (λ r e. e ∙ sym is) c.case_in.ensures

pub values_in-returns : goal.values_in-returns
values_in-returns t c =
    ap vals (c.loop-field.invariant ∙ ap (map (λ x. value_in (abs x))) (take_all c.loop-field.field-index c.args.fields.now c.loop-field-test.false)) ∙ values_there c.args.fields.now

pub value_in-case_in-requires : goal.value_in-case_in-requires
value_in-case_in-requires t c =
    let whole : weight (abs c.args.x.now) ≡ suc (cases_weight (cases_of c.in-Data.cases)) = ap weight (ap abs c.in-Data.is ∙ abs_Data c.in-Data.ty c.in-Data.cases) in
    (omega (arith, whole, c.decreases), tt)

pub case_in-values_in-requires : goal.case_in-values_in-requires
case_in-values_in-requires t c =
    let x : get_or (spread c.args.constructors.now) c.loop-i.i None ≡ Some c.in-Some.fields.now = sym c.fields.ensures ∙ ap (λ o. option_map (λ f. f.now) o) c.in-Some.is in
    (fields_fall c.args.constructors.now c.loop-i.i c.in-Some.fields.now x 3 t (omega arith) c.decreases, tt)

pub values_in-value_in-requires : goal.values_in-value_in-requires
values_in-value_in-requires t c = (value_falls c.args.fields.now c.loop-field.field-index c.field-item.result c.field-item.is c.loop-field-test.true t c.decreases, tt)
