use Rattle.std.proofs.Common.{◌≡◌, ◌<◌, ◌≤◌, suc, None, Some, option_map, length, get_or, map, ap, sym, subst, ◌∙◌, arith, rules, slice_get}
use Rattle.spec_ir.specs.Views as view
use Rattle.spec_ir.specs.Views.{specification}
use Rattle.semantics_values.specs.Types.{environment_of}
use Rattle.abstract_value_laws.specs.Abs.{cases, parts}
use Rattle.abstract_value_laws.specs.Types.{has_case, has_type, have_cases, have_types, of_data}
use Rattle.abstract_value.specs.Constructors.{spread}
use Rattle.abstract_value.specs.View.{abs, case_of, cases_of}
use Rattle.abstract_value.proofs.Falling.{fields_fall, value_falls}
use Rattle.abstract_value.proofs.Both.{ended, failed, passed, tested, uneven}
use Rattle.abstract_value.proofs.Fields.{alone_has, cases_both, parts_both}
use Rattle.abstract_value.proofs.Places.{at_alone, at_itself, when_some}
use Rattle.abstract_value.proofs.Views.{abs_Data}
use Rattle.abstract_value.proofs.Weights.{cases_weight, weight}
use Rattle.abstract_value.proofs.typed.+has_type.Goals as goal

pub has_type-returns-then-ty-data : goal.has_type-returns-then-ty-data
has_type-returns-then-ty-data g t c =
    let env = environment_of (specification c.args.spec.now) in
    let ex = ap abs c.in-Data-Data.is-0 ∙ abs_Data c.in-Data-Data.ty c.in-Data-Data.cases in
    let xs = cases_of c.in-Data-Data.cases in
    let here : c.is_data.result ≡ of_data (slice_get env.datas c.in-Data-Data.data) (have_cases env xs) = search rules in
    rw (ex, c.in-Data-Data.is-1, here) (tested c.in-Data-Data.ty c.in-Data-Data.data (of_data (slice_get env.datas c.in-Data-Data.data) (have_cases env xs)) c.if-ty-data.true)

-- ---- constructors

pub have_cases-returns-then-len-declared : goal.have_cases-returns-then-len-declared
have_cases-returns-then-len-declared g t c = uneven (cases_both (environment_of (specification c.args.spec.now)) view.case_of) (spread c.args.values.now) c.args.declared.now (λ e. c.if-len-declared.true (c.len.ensures ∙ e))

pub have_cases-returns-in-Some : goal.have_cases-returns-in-Some
have_cases-returns-in-Some g t c =
    let env = environment_of (specification c.args.spec.now) in
    let f = c.in-Some.fields.now in
    let d = c.index-declared-number.result in
    let ds = c.args.declared.now in
    let only = when_some _ c.alone.result _ c.in-Some.is c.alone.ensures in
    let fields = c.deref.ensures.value ∙ sym (ap (λ d. d.fields.items) c.index-declared-number.is) in
    c.have_types.ensures ∙ ap (λ l. have_types env (parts (map abs f)) (map (λ f. f.1) l)) fields ∙ alone_has env view.case_of (spread c.args.values.now) c.in-Some.number f ds d only (sym c.len.ensures ∙ c.if-len-declared.false) c.index-declared-number.is

pub have_cases-have_types-requires : goal.have_cases-have_types-requires
have_cases-have_types-requires g t c κs within =
    let only = when_some _ c.alone.result _ c.in-Some.is c.alone.ensures in
    (fields_fall c.args.values.now c.in-Some.number c.in-Some.fields.now (at_alone (spread c.args.values.now) c.in-Some.number c.in-Some.fields.now only) 5 t (omega arith) c.decreases, within)

pub has_each-returns-then-not-has_case : goal.has_each-returns-then-not-has_case
has_each-returns-then-not-has_case g t c =
    let env = environment_of (specification c.args.spec.now) in
    let xs = spread c.args.values.now in
    let ds = c.args.declared.now in
    let i = c.loop-i.i in
    let below : i < length xs = subst (λ n. i < n) c.len-i-end.ensures c.loop-i-test.true in
    failed (cases_both env view.case_of) xs ds i (get_or xs i None) c.index-declared-i.result (have_cases env (cases (map case_of xs)) (map view.case_of ds)) c.loop-i.invariant.lengths below (at_itself xs i None below) c.index-declared-i.is c.if-not-has_case.ensures c.loop-i.invariant.whole

pub has_each-loop-i-preserved : goal.has_each-loop-i-preserved
has_each-loop-i-preserved g t c =
    let env = environment_of (specification c.args.spec.now) in
    let xs = spread c.args.values.now in
    let ds = c.args.declared.now in
    let i = c.loop-i.i in
    let below : i < length xs = subst (λ n. i < n) c.len-i-end.ensures c.loop-i-test.true in
    record {
      lengths = c.loop-i.invariant.lengths;
      whole = passed (cases_both env view.case_of) xs ds i (get_or xs i None) c.index-declared-i.result (have_cases env (cases (map case_of xs)) (map view.case_of ds)) c.loop-i.invariant.lengths below (at_itself xs i None below) c.index-declared-i.is c.if-not-has_case.ensures c.loop-i.invariant.whole;
    }

pub has_each-returns : goal.has_each-returns
has_each-returns g t c =
    let env = environment_of (specification c.args.spec.now) in
    let xs = spread c.args.values.now in
    let ds = c.args.declared.now in
    ended (cases_both env view.case_of) xs ds c.loop-i.i (have_cases env (cases (map case_of xs)) (map view.case_of ds)) c.loop-i.invariant.lengths (subst (λ n. n ≤ c.loop-i.i) c.len-i-end.ensures c.loop-i-test.false) c.loop-i.invariant.whole

pub has_case-have_types-requires : goal.has_case-have_types-requires
has_case-have_types-requires g t c κs within =
    let xs = spread c.args.values.now in
    let x : get_or xs c.args.i None ≡ Some c.in-Some.fields.now = sym c.fields.ensures ∙ ap (λ o. option_map (λ f. f.now) o) c.in-Some.is in
    (fields_fall c.args.values.now c.args.i c.in-Some.fields.now x 3 t (omega arith) c.decreases, within)

-- ---- fields

pub have_types-returns-then-values-fields : goal.have_types-returns-then-values-fields
have_types-returns-then-values-fields g t c = uneven (parts_both (environment_of (specification c.args.spec.now)) (λ f. f.1)) c.args.values.now c.args.fields.now c.if-values-fields.true

pub have_types-returns-then-not-has_type : goal.have_types-returns-then-not-has_type
have_types-returns-then-not-has_type g t c =
    let env = environment_of (specification c.args.spec.now) in
    failed (parts_both env (λ f. f.1)) c.args.values.now c.args.fields.now c.loop-i.i c.index-values-i.result c.index-fields-i.result (have_types env (parts (map abs c.args.values.now)) (map (λ f. f.1) c.args.fields.now)) c.loop-i.invariant.lengths c.loop-i-test.true c.index-values-i.is c.index-fields-i.is (c.if-not-has_type.ensures ∙ sym (ap (λ f. has_type env (abs c.index-values-i.result) f.1) c.index-fields-i.is)) c.loop-i.invariant.whole

pub have_types-loop-i-preserved : goal.have_types-loop-i-preserved
have_types-loop-i-preserved g t c =
    let env = environment_of (specification c.args.spec.now) in
    record {
      lengths = c.loop-i.invariant.lengths;
      whole = passed (parts_both env (λ f. f.1)) c.args.values.now c.args.fields.now c.loop-i.i c.index-values-i.result c.index-fields-i.result (have_types env (parts (map abs c.args.values.now)) (map (λ f. f.1) c.args.fields.now)) c.loop-i.invariant.lengths c.loop-i-test.true c.index-values-i.is c.index-fields-i.is (c.if-not-has_type.ensures ∙ sym (ap (λ f. has_type env (abs c.index-values-i.result) f.1) c.index-fields-i.is)) c.loop-i.invariant.whole;
    }

pub have_types-returns : goal.have_types-returns
have_types-returns g t c =
    let env = environment_of (specification c.args.spec.now) in
    ended (parts_both env (λ f. f.1)) c.args.values.now c.args.fields.now c.loop-i.i (have_types env (parts (map abs c.args.values.now)) (map (λ f. f.1) c.args.fields.now)) c.loop-i.invariant.lengths c.loop-i-test.false c.loop-i.invariant.whole

pub have_types-has_type-requires : goal.have_types-has_type-requires
have_types-has_type-requires g t c κs within = (value_falls c.args.values.now c.loop-i.i c.index-values-i.result c.index-values-i.is c.loop-i-test.true t c.decreases, within)

pub has_type-is_data-requires : goal.has_type-is_data-requires
has_type-is_data-requires g t c κs within =
    let whole : weight (abs c.args.v.now) ≡ suc (cases_weight (cases_of c.in-Data-Data.cases)) = ap weight (ap abs c.in-Data-Data.is-0 ∙ abs_Data c.in-Data-Data.ty c.in-Data-Data.cases) in
    (omega (arith, whole, c.decreases), within)
