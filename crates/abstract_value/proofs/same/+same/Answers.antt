use Rattle.std.proofs.Common.{◌≡◌, ◌<◌, ◌≤◌, suc, None, Some, option_map, map, length, get_or, ap, sym, subst, ◌∙◌, arith}
use Rattle.abstract_value_laws.specs.Abs.{cases, parts}
use Rattle.abstract_value.specs.Constructors.{spread}
use Rattle.abstract_value.specs.Same.{same_cases, same_parts}
use Rattle.abstract_value.specs.View.{abs, case_of, cases_of}
use Rattle.abstract_value.proofs.Alone.{alone_tested}
use Rattle.abstract_value.proofs.Falling.{fields_fall, value_falls}
use Rattle.abstract_value.proofs.Both.{ended, failed, passed, tested, uneven}
use Rattle.abstract_value.proofs.Places.{at_alone, at_itself, when_some}
use Rattle.abstract_value.proofs.Sameness.{cases_both, each, parts_both}
use Rattle.abstract_value.proofs.Views.{abs_Data}
use Rattle.abstract_value.proofs.Weights.{cases_weight, weight}
use Rattle.abstract_value.proofs.same.+same.Goals as goal

pub same_value-returns-then-ty-tz : goal.same_value-returns-then-ty-tz
same_value-returns-then-ty-tz g t c =
    let words = g.B.Word.PartialEq.eq in
    let notes = g.B.Note.PartialEq.eq in
    let ex = ap abs c.in-Data-Data.is-0 ∙ abs_Data c.in-Data-Data.ty c.in-Data-Data.cases in
    let ey = ap abs c.in-Data-Data.is-1 ∙ abs_Data c.in-Data-Data.tz c.in-Data-Data.others in
    let xs = cases_of c.in-Data-Data.cases in
    let ys = cases_of c.in-Data-Data.others in
    let here : c.same_cases.result ≡ same_cases words notes xs ys = c.same_cases.ensures in
    rw (ex, ey, here) (tested c.in-Data-Data.ty c.in-Data-Data.tz (same_cases words notes xs ys) c.if-ty-tz.true)

pub same_cases-returns-in-Some : goal.same_cases-returns-in-Some
same_cases-returns-in-Some g t c =
    let only = when_some _ c.both_alone.result _ c.in-Some.is c.both_alone.ensures in
    c.same_parts.ensures ∙ alone_tested (each g.B.Word.PartialEq.eq g.B.Note.PartialEq.eq) (spread c.args.xs.now) (spread c.args.ys.now) c.in-Some._number c.in-Some.x.now c.in-Some.y.now only

pub same_cases-same_parts-requires : goal.same_cases-same_parts-requires
same_cases-same_parts-requires g t c κs within =
    let only = when_some _ c.both_alone.result _ c.in-Some.is c.both_alone.ensures in
    (fields_fall c.args.xs.now c.in-Some._number c.in-Some.x.now (at_alone (spread c.args.xs.now) c.in-Some._number c.in-Some.x.now only.first) 5 t (omega arith) c.decreases, within)

pub same_each-returns-then-len : goal.same_each-returns-then-len
same_each-returns-then-len g t c = uneven (cases_both g.B.Word.PartialEq.eq g.B.Note.PartialEq.eq) (spread c.args.xs.now) (spread c.args.ys.now) (λ e. c.if-len.true (c.len.ensures ∙ e ∙ sym c.len-2.ensures))

pub same_each-returns-then-not-same_case : goal.same_each-returns-then-not-same_case
same_each-returns-then-not-same_case g t c =
    let words = g.B.Word.PartialEq.eq in
    let notes = g.B.Note.PartialEq.eq in
    let xs = spread c.args.xs.now in
    let ys = spread c.args.ys.now in
    let i = c.loop-i.i in
    let below : i < length xs = subst (λ n. i < n) c.len-i-end.ensures c.loop-i-test.true in
    let other : i < length ys = subst (λ n. i < n) c.loop-i.invariant.lengths below in
    failed (cases_both words notes) xs ys i (get_or xs i None) (get_or ys i None) (same_cases words notes (cases (map case_of xs)) (cases (map case_of ys))) c.loop-i.invariant.lengths below (at_itself xs i None below) (at_itself ys i None other) c.if-not-same_case.ensures c.loop-i.invariant.whole

pub same_each-loop-i-preserved : goal.same_each-loop-i-preserved
same_each-loop-i-preserved g t c =
    let words = g.B.Word.PartialEq.eq in
    let notes = g.B.Note.PartialEq.eq in
    let xs = spread c.args.xs.now in
    let ys = spread c.args.ys.now in
    let i = c.loop-i.i in
    let below : i < length xs = subst (λ n. i < n) c.len-i-end.ensures c.loop-i-test.true in
    let other : i < length ys = subst (λ n. i < n) c.loop-i.invariant.lengths below in
    record {
      lengths = c.loop-i.invariant.lengths;
      whole = passed (cases_both words notes) xs ys i (get_or xs i None) (get_or ys i None) (same_cases words notes (cases (map case_of xs)) (cases (map case_of ys))) c.loop-i.invariant.lengths below (at_itself xs i None below) (at_itself ys i None other) c.if-not-same_case.ensures c.loop-i.invariant.whole;
    }

pub same_each-returns : goal.same_each-returns
same_each-returns g t c =
    let words = g.B.Word.PartialEq.eq in
    let notes = g.B.Note.PartialEq.eq in
    let xs = spread c.args.xs.now in
    let ys = spread c.args.ys.now in
    ended (cases_both words notes) xs ys c.loop-i.i (same_cases words notes (cases (map case_of xs)) (cases (map case_of ys))) c.loop-i.invariant.lengths (subst (λ n. n ≤ c.loop-i.i) c.len-i-end.ensures c.loop-i-test.false) c.loop-i.invariant.whole

pub same_parts-returns-then-xs-ys : goal.same_parts-returns-then-xs-ys
same_parts-returns-then-xs-ys g t c = uneven (parts_both g.B.Word.PartialEq.eq g.B.Note.PartialEq.eq) c.args.xs.now c.args.ys.now c.if-xs-ys.true

pub same_parts-returns-then-not-same_value : goal.same_parts-returns-then-not-same_value
same_parts-returns-then-not-same_value g t c =
    let words = g.B.Word.PartialEq.eq in
    let notes = g.B.Note.PartialEq.eq in
    failed (parts_both words notes) c.args.xs.now c.args.ys.now c.loop-i.i c.index-xs-i.result c.index-ys-i.result (same_parts words notes (parts (map abs c.args.xs.now)) (parts (map abs c.args.ys.now))) c.loop-i.invariant.lengths c.loop-i-test.true c.index-xs-i.is c.index-ys-i.is c.if-not-same_value.ensures c.loop-i.invariant.whole

pub same_parts-loop-i-preserved : goal.same_parts-loop-i-preserved
same_parts-loop-i-preserved g t c =
    let words = g.B.Word.PartialEq.eq in
    let notes = g.B.Note.PartialEq.eq in
    record {
      lengths = c.loop-i.invariant.lengths;
      whole = passed (parts_both words notes) c.args.xs.now c.args.ys.now c.loop-i.i c.index-xs-i.result c.index-ys-i.result (same_parts words notes (parts (map abs c.args.xs.now)) (parts (map abs c.args.ys.now))) c.loop-i.invariant.lengths c.loop-i-test.true c.index-xs-i.is c.index-ys-i.is c.if-not-same_value.ensures c.loop-i.invariant.whole;
    }

pub same_parts-returns : goal.same_parts-returns
same_parts-returns g t c =
    let words = g.B.Word.PartialEq.eq in
    let notes = g.B.Note.PartialEq.eq in
    ended (parts_both words notes) c.args.xs.now c.args.ys.now c.loop-i.i (same_parts words notes (parts (map abs c.args.xs.now)) (parts (map abs c.args.ys.now))) c.loop-i.invariant.lengths c.loop-i-test.false c.loop-i.invariant.whole

pub same_parts-same_value-requires : goal.same_parts-same_value-requires
same_parts-same_value-requires g t c κs within = (value_falls c.args.xs.now c.loop-i.i c.index-xs-i.result c.index-xs-i.is c.loop-i-test.true t c.decreases, within)

pub same_value-same_cases-requires : goal.same_value-same_cases-requires
same_value-same_cases-requires g t c κs within =
    let whole : weight (abs c.args.x.now) ≡ suc (cases_weight (cases_of c.in-Data-Data.cases)) = ap weight (ap abs c.in-Data-Data.is-0 ∙ abs_Data c.in-Data-Data.ty c.in-Data-Data.cases) in
    (omega (arith, whole, c.decreases), within)

pub same_case-same_parts-requires : goal.same_case-same_parts-requires
same_case-same_parts-requires g t c κs within =
    let x : get_or (spread c.args.xs.now) c.args.i None ≡ Some c.in-Some-Some.x.now = sym c.fields.ensures ∙ ap (λ o. option_map (λ f. f.now) o) c.in-Some-Some.is-0 in
    (fields_fall c.args.xs.now c.args.i c.in-Some-Some.x.now x 3 t (omega arith) c.decreases, within)
