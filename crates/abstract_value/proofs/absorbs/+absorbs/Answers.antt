use Rattle.std.proofs.Common.{◌≡◌, ◌<◌, ◌≤◌, suc, None, Some, option_map, map, length, get_or, ap, sym, subst, ◌∙◌, arith, rules}
use Rattle.abstract_value_laws.specs.Abs.{cases, parts}
use Rattle.abstract_value_laws.specs.Calls.{absorbs_cases, absorbs_parts}
use Rattle.abstract_value_laws.specs.Fits.{CasesFit}
use Rattle.abstract_value.specs.Constructors.{spread}
use Rattle.abstract_value.specs.View.{abs, case_of, cases_of}
use Rattle.abstract_value.proofs.Absorption.{cases_both, each, parts_both}
use Rattle.abstract_value.proofs.Alone.{alone_tested}
use Rattle.abstract_value.proofs.Both.{ended, failed, passed, tested, uneven}
use Rattle.abstract_value.proofs.Falling.{fields_fall, value_falls}
use Rattle.abstract_value.proofs.Merging.{alone_fits, cases_fit_here, cases_fit_of, map_fits_of, other_fits_of, parts_fit_here, parts_fit_of, word_fits_of}
use Rattle.abstract_value.proofs.Places.{at_alone, at_itself, when_some}
use Rattle.abstract_value.proofs.Views.{abs_Data}
use Rattle.abstract_value.proofs.Weights.{cases_weight, weight}
use Rattle.abstract_value.proofs.absorbs.+absorbs.Goals as goal

pub absorbs-absorbs_cases-requires : goal.absorbs-absorbs_cases-requires
absorbs-absorbs_cases-requires g t c κs within =
    let b = g.B.Base.algebra in
    let ctx = c.args.ctx.now in
    let cap = g.B.Base.CAP in
    let left = cases_fit_of b ctx cap c.args.x.now c.in-Data-Data.ty c.in-Data-Data.cases c.in-Data-Data.is-0 c.requires.old in
    let right = cases_fit_of b ctx cap c.args.y.now c.in-Data-Data.tz c.in-Data-Data.others c.in-Data-Data.is-1 c.requires.new in
    let whole : weight (abs c.args.x.now) ≡ suc (cases_weight (cases_of c.in-Data-Data.cases)) = ap weight (ap abs c.in-Data-Data.is-0 ∙ abs_Data c.in-Data-Data.ty c.in-Data-Data.cases) in
    (omega (arith, whole, c.decreases), (within.0, (within.1.0, (within.1.1.0, (within.1.1.1, (left, right))))))

pub absorbs-returns-then-ty-tz : goal.absorbs-returns-then-ty-tz
absorbs-returns-then-ty-tz g t c =
    let b = g.B.Base.algebra in
    let ctx = c.args.ctx.now in
    let cap = g.B.Base.CAP in
    let ex = ap abs c.in-Data-Data.is-0 ∙ abs_Data c.in-Data-Data.ty c.in-Data-Data.cases in
    let ey = ap abs c.in-Data-Data.is-1 ∙ abs_Data c.in-Data-Data.tz c.in-Data-Data.others in
    let xs = cases_of c.in-Data-Data.cases in
    let ys = cases_of c.in-Data-Data.others in
    let here : c.absorbs_cases.result ≡ absorbs_cases b ctx xs ys = c.absorbs_cases.ensures in
    rw (ex, ey, here) (tested c.in-Data-Data.ty c.in-Data-Data.tz (absorbs_cases b ctx xs ys) c.if-ty-tz.true)

-- ---- constructors

pub absorbs_cases-returns-in-Some : goal.absorbs_cases-returns-in-Some
absorbs_cases-returns-in-Some g t c =
    let only = when_some _ c.both_alone.result _ c.in-Some.is c.both_alone.ensures in
    c.absorbs_parts.ensures ∙ alone_tested (each g.B.Base.algebra c.args.ctx.now) (spread c.args.xs.now) (spread c.args.ys.now) c.in-Some._number c.in-Some.x.now c.in-Some.y.now only

pub absorbs_cases-absorbs_parts-requires : goal.absorbs_cases-absorbs_parts-requires
absorbs_cases-absorbs_parts-requires g t c κs within =
    let b = g.B.Base.algebra in
    let ctx = c.args.ctx.now in
    let cap = g.B.Base.CAP in
    let only = when_some _ c.both_alone.result _ c.in-Some.is c.both_alone.ensures in
    let left = alone_fits b ctx cap (spread c.args.xs.now) c.in-Some._number c.in-Some.x.now only.first c.requires.old in
    let right = alone_fits b ctx cap (spread c.args.ys.now) c.in-Some._number c.in-Some.y.now only.second c.requires.new in
    (fields_fall c.args.xs.now c.in-Some._number c.in-Some.x.now (at_alone (spread c.args.xs.now) c.in-Some._number c.in-Some.x.now only.first) 5 t (omega arith) c.decreases, (within.0, (within.1.0, (within.1.1.0, (within.1.1.1, (left, right))))))

pub absorbs_each-returns-then-len : goal.absorbs_each-returns-then-len
absorbs_each-returns-then-len g t c = uneven (cases_both g.B.Base.algebra c.args.ctx.now) (spread c.args.xs.now) (spread c.args.ys.now) (λ e. c.if-len.true (c.len.ensures ∙ e ∙ sym c.len-2.ensures))

pub absorbs_each-returns-then-not-absorbs_case : goal.absorbs_each-returns-then-not-absorbs_case
absorbs_each-returns-then-not-absorbs_case g t c =
    let b = g.B.Base.algebra in
    let ctx = c.args.ctx.now in
    let cap = g.B.Base.CAP in
    let xs = spread c.args.xs.now in
    let ys = spread c.args.ys.now in
    let i = c.loop-i.i in
    let below : i < length xs = subst (λ n. i < n) c.len-i-end.ensures c.loop-i-test.true in
    let other : i < length ys = subst (λ n. i < n) c.loop-i.invariant.lengths below in
    failed (cases_both b ctx) xs ys i (get_or xs i None) (get_or ys i None) (absorbs_cases b ctx (cases (map case_of xs)) (cases (map case_of ys))) c.loop-i.invariant.lengths below (at_itself xs i None below) (at_itself ys i None other) c.if-not-absorbs_case.ensures c.loop-i.invariant.whole

pub absorbs_each-loop-i-preserved : goal.absorbs_each-loop-i-preserved
absorbs_each-loop-i-preserved g t c =
    let b = g.B.Base.algebra in
    let ctx = c.args.ctx.now in
    let cap = g.B.Base.CAP in
    let xs = spread c.args.xs.now in
    let ys = spread c.args.ys.now in
    let i = c.loop-i.i in
    let below : i < length xs = subst (λ n. i < n) c.len-i-end.ensures c.loop-i-test.true in
    let other : i < length ys = subst (λ n. i < n) c.loop-i.invariant.lengths below in
    record {
      lengths = c.loop-i.invariant.lengths;
      whole = passed (cases_both b ctx) xs ys i (get_or xs i None) (get_or ys i None) (absorbs_cases b ctx (cases (map case_of xs)) (cases (map case_of ys))) c.loop-i.invariant.lengths below (at_itself xs i None below) (at_itself ys i None other) c.if-not-absorbs_case.ensures c.loop-i.invariant.whole;
      old = (cases_fit_here b ctx cap xs i (get_or xs i None) (at_itself xs i None below) below c.loop-i.invariant.old).1;
      new = (cases_fit_here b ctx cap ys i (get_or ys i None) (at_itself ys i None other) other c.loop-i.invariant.new).1;
    }

pub absorbs_each-returns : goal.absorbs_each-returns
absorbs_each-returns g t c =
    let b = g.B.Base.algebra in
    let ctx = c.args.ctx.now in
    let cap = g.B.Base.CAP in
    let xs = spread c.args.xs.now in
    let ys = spread c.args.ys.now in
    ended (cases_both b ctx) xs ys c.loop-i.i (absorbs_cases b ctx (cases (map case_of xs)) (cases (map case_of ys))) c.loop-i.invariant.lengths (subst (λ n. n ≤ c.loop-i.i) c.len-i-end.ensures c.loop-i-test.false) c.loop-i.invariant.whole

pub absorbs_each-absorbs_case-requires : goal.absorbs_each-absorbs_case-requires
absorbs_each-absorbs_case-requires g t c κs within =
    let b = g.B.Base.algebra in
    let ctx = c.args.ctx.now in
    let cap = g.B.Base.CAP in
    let xs = spread c.args.xs.now in
    let ys = spread c.args.ys.now in
    let i = c.loop-i.i in
    let below : i < length xs = subst (λ n. i < n) c.len-i-end.ensures c.loop-i-test.true in
    let other : i < length ys = subst (λ n. i < n) c.loop-i.invariant.lengths below in
    let old = cases_fit_here b ctx cap xs i (get_or xs i None) (at_itself xs i None below) below c.loop-i.invariant.old in
    let new = cases_fit_here b ctx cap ys i (get_or ys i None) (at_itself ys i None other) other c.loop-i.invariant.new in
    (omega (arith, c.decreases), (within.0, (within.1.0, (within.1.1.0, (within.1.1.1, (old.0, new.0))))))

pub absorbs_case-absorbs_parts-requires : goal.absorbs_case-absorbs_parts-requires
absorbs_case-absorbs_parts-requires g t c κs within =
    let b = g.B.Base.algebra in
    let ctx = c.args.ctx.now in
    let cap = g.B.Base.CAP in
    let xs = spread c.args.xs.now in
    let ys = spread c.args.ys.now in
    let i = c.args.i in
    let x : get_or xs i None ≡ Some c.in-Some-Some.x.now = sym c.fields.ensures ∙ ap (λ o. option_map (λ f. f.now) o) c.in-Some-Some.is-0 in
    let y : get_or ys i None ≡ Some c.in-Some-Some.y.now = sym c.fields-2.ensures ∙ ap (λ o. option_map (λ f. f.now) o) c.in-Some-Some.is-1 in
    let left = parts_fit_of b ctx cap (get_or xs i None) c.in-Some-Some.x.now x c.requires.old in
    let right = parts_fit_of b ctx cap (get_or ys i None) c.in-Some-Some.y.now y c.requires.new in
    (fields_fall c.args.xs.now i c.in-Some-Some.x.now x 3 t (omega arith) c.decreases, (within.0, (within.1.0, (within.1.1.0, (within.1.1.1, (left, right))))))

-- ---- fields

pub absorbs_parts-returns-then-xs-ys : goal.absorbs_parts-returns-then-xs-ys
absorbs_parts-returns-then-xs-ys g t c = uneven (parts_both g.B.Base.algebra c.args.ctx.now) c.args.xs.now c.args.ys.now c.if-xs-ys.true

pub absorbs_parts-returns-then-not-absorbs : goal.absorbs_parts-returns-then-not-absorbs
absorbs_parts-returns-then-not-absorbs g t c =
    let b = g.B.Base.algebra in
    let ctx = c.args.ctx.now in
    let cap = g.B.Base.CAP in
    failed (parts_both b ctx) c.args.xs.now c.args.ys.now c.loop-i.i c.index-xs-i.result c.index-ys-i.result (absorbs_parts b ctx (parts (map abs c.args.xs.now)) (parts (map abs c.args.ys.now))) c.loop-i.invariant.lengths c.loop-i-test.true c.index-xs-i.is c.index-ys-i.is c.if-not-absorbs.ensures c.loop-i.invariant.whole

pub absorbs_parts-loop-i-preserved : goal.absorbs_parts-loop-i-preserved
absorbs_parts-loop-i-preserved g t c =
    let b = g.B.Base.algebra in
    let ctx = c.args.ctx.now in
    let cap = g.B.Base.CAP in
    record {
      lengths = c.loop-i.invariant.lengths;
      whole = passed (parts_both b ctx) c.args.xs.now c.args.ys.now c.loop-i.i c.index-xs-i.result c.index-ys-i.result (absorbs_parts b ctx (parts (map abs c.args.xs.now)) (parts (map abs c.args.ys.now))) c.loop-i.invariant.lengths c.loop-i-test.true c.index-xs-i.is c.index-ys-i.is c.if-not-absorbs.ensures c.loop-i.invariant.whole;
      old = (parts_fit_here b ctx cap c.args.xs.now c.loop-i.i c.index-xs-i.result c.index-xs-i.is c.loop-i-test.true c.loop-i.invariant.old).1;
      new = (parts_fit_here b ctx cap c.args.ys.now c.loop-i.i c.index-ys-i.result c.index-ys-i.is (subst (λ n. c.loop-i.i < n) c.loop-i.invariant.lengths c.loop-i-test.true) c.loop-i.invariant.new).1;
    }

pub absorbs_parts-returns : goal.absorbs_parts-returns
absorbs_parts-returns g t c =
    let b = g.B.Base.algebra in
    let ctx = c.args.ctx.now in
    let cap = g.B.Base.CAP in
    ended (parts_both b ctx) c.args.xs.now c.args.ys.now c.loop-i.i (absorbs_parts b ctx (parts (map abs c.args.xs.now)) (parts (map abs c.args.ys.now))) c.loop-i.invariant.lengths c.loop-i-test.false c.loop-i.invariant.whole

pub absorbs-absorbs-requires-clause-width : goal.absorbs-absorbs-requires-clause-width
absorbs-absorbs-requires-clause-width g t c =
    let b = g.B.Base.algebra in
    let ctx = c.args.ctx.now in
    let cap = g.B.Base.CAP in
    (word_fits_of b ctx cap c.args.x.now c.in-Word-Word.w c.in-Word-Word.word c.in-Word-Word.is-0 c.requires.old).0

pub absorbs-absorbs-requires-clause-left : goal.absorbs-absorbs-requires-clause-left
absorbs-absorbs-requires-clause-left g t c =
    let b = g.B.Base.algebra in
    let ctx = c.args.ctx.now in
    let cap = g.B.Base.CAP in
    (word_fits_of b ctx cap c.args.x.now c.in-Word-Word.w c.in-Word-Word.word c.in-Word-Word.is-0 c.requires.old).1

pub absorbs-absorbs-requires-clause-right : goal.absorbs-absorbs-requires-clause-right
absorbs-absorbs-requires-clause-right g t c =
    let b = g.B.Base.algebra in
    let ctx = c.args.ctx.now in
    let cap = g.B.Base.CAP in
    other_fits_of b ctx cap c.args.y.now c.in-Word-Word.w c.in-Word-Word.u c.in-Word-Word.other c.in-Word-Word.is-1 c.if-w-u.true c.requires.new

pub absorbs-absorbs-requires-then-width-clause-old : goal.absorbs-absorbs-requires-then-width-clause-old
absorbs-absorbs-requires-then-width-clause-old g t c =
    let b = g.B.Base.algebra in
    let ctx = c.args.ctx.now in
    let cap = g.B.Base.CAP in
    map_fits_of b ctx cap c.args.x.now c.in-Map-Map.map c.in-Map-Map.m c.in-Map-Map.is-0 c.requires.old

pub absorbs-absorbs-requires-then-width-clause-new : goal.absorbs-absorbs-requires-then-width-clause-new
absorbs-absorbs-requires-then-width-clause-new g t c =
    let b = g.B.Base.algebra in
    let ctx = c.args.ctx.now in
    let cap = g.B.Base.CAP in
    map_fits_of b ctx cap c.args.y.now c.in-Map-Map.n c.in-Map-Map.other c.in-Map-Map.is-1 c.requires.new

pub absorbs_parts-absorbs-requires : goal.absorbs_parts-absorbs-requires
absorbs_parts-absorbs-requires g t c κs within =
    let b = g.B.Base.algebra in
    let ctx = c.args.ctx.now in
    let cap = g.B.Base.CAP in
    let old = parts_fit_here b ctx cap c.args.xs.now c.loop-i.i c.index-xs-i.result c.index-xs-i.is c.loop-i-test.true c.loop-i.invariant.old in
    let new = parts_fit_here b ctx cap c.args.ys.now c.loop-i.i c.index-ys-i.result c.index-ys-i.is (subst (λ n. c.loop-i.i < n) c.loop-i.invariant.lengths c.loop-i-test.true) c.loop-i.invariant.new in
    (value_falls c.args.xs.now c.loop-i.i c.index-xs-i.result c.index-xs-i.is c.loop-i-test.true t c.decreases, (within.0, (within.1.0, (within.1.1.0, (within.1.1.1, (old.0, new.0))))))
