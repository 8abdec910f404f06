use Rattle.std.proofs.Common.{◌≡◌, ◌<◌, ◌≤◌, suc, min, None, Some, option_map, length, get_or, map, ap, sym, ◌∙◌, arith, rules}
use Rattle.abstract_value_laws.specs.Abs.{cases, parts}
use Rattle.abstract_value.specs.Constructors.{only, spread}
use Rattle.abstract_value.specs.View.{abs, case_of, cases_of}
use Rattle.abstract_value.specs.Ways.{maps_by, merged_case, merged_cases, merged_parts, words_by}
use Rattle.abstract_map.proofs.Whole.{if_ok}
use Rattle.abstract_value.proofs.Falling.{fields_fall, value_falls}
use Rattle.abstract_value.proofs.Merging.{alone_fits, alone_merged, below_min, cases_done, cases_fit_here, cases_fit_of, cases_pushed, flags_merged, made_merged, map_fits_of, maps_merged, other_fits_of, parts_done, parts_fit_here, parts_fit_of, parts_pushed, word_fits_of, words_merged}
use Rattle.abstract_value.proofs.Places.{at_alone, at_itself, when_some}
use Rattle.abstract_value.proofs.Views.{abs_Data}
use Rattle.abstract_value.proofs.Weights.{cases_weight, weight}
use Rattle.abstract_value.proofs.merge.+merge.Goals as goal

-- ---- the parts of two constructors

pub merge_parts-loop-i-preserved : goal.merge_parts-loop-i-preserved
merge_parts-loop-i-preserved g t c =
    let b = g.B.Base.algebra in
    let ctx = c.args.ctx.now in
    let cap = g.B.Base.CAP in
    let way = c.args.way in
    let xs = c.args.xs.now in
    let ys = c.args.ys.now in
    let i = c.loop-i.i in
    let n = c.min-i-end.result in
    let below = below_min i n (length xs) (length ys) c.loop-i-test.true c.min-i-end.ensures in
    let whole = merged_parts b ctx cap way (parts (map abs xs)) (parts (map abs ys)) in
    record {
      whole = parts_pushed (words_by b ctx cap way) (maps_by b ctx cap way) c.merge.result xs ys i n c.index-xs-i.result c.index-ys-i.result c.loop-i.out.items c.in_ok-out.out.items whole c.loop-i-test.true c.min-i-end.ensures c.index-xs-i.is c.index-ys-i.is c.in_ok-out.ensures c.merge.ensures c.loop-i.invariant.whole;
      left = (parts_fit_here b ctx cap xs i c.index-xs-i.result c.index-xs-i.is below.0 c.loop-i.invariant.left).1;
      right = (parts_fit_here b ctx cap ys i c.index-ys-i.result c.index-ys-i.is below.1 c.loop-i.invariant.right).1;
    }

pub merge_parts-returns : goal.merge_parts-returns
merge_parts-returns g t c =
    let b = g.B.Base.algebra in
    let ctx = c.args.ctx.now in
    let cap = g.B.Base.CAP in
    let way = c.args.way in
    let xs = c.args.xs.now in
    let ys = c.args.ys.now in
    parts_done (words_by b ctx cap way) (maps_by b ctx cap way) xs ys c.loop-i.i c.min-i-end.result c.loop-i.out.items (merged_parts b ctx cap way (parts (map abs xs)) (parts (map abs ys))) c.loop-i-test.false c.min-i-end.ensures c.loop-i.invariant.whole

-- ---- the constructors

pub merge_each-loop-i-preserved : goal.merge_each-loop-i-preserved
merge_each-loop-i-preserved g t c =
    let b = g.B.Base.algebra in
    let ctx = c.args.ctx.now in
    let cap = g.B.Base.CAP in
    let way = c.args.way in
    let xs = spread c.args.xs.now in
    let ys = spread c.args.ys.now in
    let i = c.loop-i.i in
    let n = c.min-i-end.result in
    let least : n ≡ min (length xs) (length ys) = rw (← c.len.ensures, ← c.len-2.ensures) c.min-i-end.ensures in
    let below = below_min i n (length xs) (length ys) c.loop-i-test.true least in
    let whole = merged_cases b ctx cap way (cases (map case_of xs)) (cases (map case_of ys)) in
    record {
      whole = cases_pushed (words_by b ctx cap way) (maps_by b ctx cap way) (λ r. option_map (λ f. f.value.items) r) c.merge_case.result xs ys i n (get_or xs i None) (get_or ys i None) (spread c.loop-i.out) (spread c.in_ok-out.out) whole c.loop-i-test.true least (at_itself xs i None below.0) (at_itself ys i None below.1) c.in_ok-out.ensures.value c.merge_case.ensures c.loop-i.invariant.whole;
      within = c.in_ok-out.ensures.within;
      left = (cases_fit_here b ctx cap xs i (get_or xs i None) (at_itself xs i None below.0) below.0 c.loop-i.invariant.left).1;
      right = (cases_fit_here b ctx cap ys i (get_or ys i None) (at_itself ys i None below.1) below.1 c.loop-i.invariant.right).1;
    }

pub merge_each-returns : goal.merge_each-returns
merge_each-returns g t c =
    let b = g.B.Base.algebra in
    let ctx = c.args.ctx.now in
    let cap = g.B.Base.CAP in
    let way = c.args.way in
    let xs = spread c.args.xs.now in
    let ys = spread c.args.ys.now in
    let least : c.min-i-end.result ≡ min (length xs) (length ys) = rw (← c.len.ensures, ← c.len-2.ensures) c.min-i-end.ensures in
    cases_done (words_by b ctx cap way) (maps_by b ctx cap way) xs ys c.loop-i.i c.min-i-end.result (spread c.loop-i.out) (merged_cases b ctx cap way (cases (map case_of xs)) (cases (map case_of ys))) c.loop-i-test.false least c.loop-i.invariant.whole

pub merge_each-merge_case-requires : goal.merge_each-merge_case-requires
merge_each-merge_case-requires g t c κs within =
    let b = g.B.Base.algebra in
    let ctx = c.args.ctx.now in
    let cap = g.B.Base.CAP in
    let way = c.args.way in
    let xs = spread c.args.xs.now in
    let ys = spread c.args.ys.now in
    let i = c.loop-i.i in
    let n = c.min-i-end.result in
    let least : n ≡ min (length xs) (length ys) = rw (← c.len.ensures, ← c.len-2.ensures) c.min-i-end.ensures in
    let below = below_min i n (length xs) (length ys) c.loop-i-test.true least in
    let left = cases_fit_here b ctx cap xs i (get_or xs i None) (at_itself xs i None below.0) below.0 c.loop-i.invariant.left in
    let right = cases_fit_here b ctx cap ys i (get_or ys i None) (at_itself ys i None below.1) below.1 c.loop-i.invariant.right in
    (omega (arith, c.decreases), (within.0, (within.1.0, (within.1.1.0, (within.1.1.1, (left.0, right.0))))))

pub merge_cases-merge_parts-requires : goal.merge_cases-merge_parts-requires
merge_cases-merge_parts-requires g t c κs within =
    let b = g.B.Base.algebra in
    let ctx = c.args.ctx.now in
    let cap = g.B.Base.CAP in
    let way = c.args.way in
    let only = when_some _ c.both_alone.result _ c.in-Some.is c.both_alone.ensures in
    let left = alone_fits b ctx cap (spread c.args.xs.now) c.in-Some.number c.in-Some.x.now only.first c.requires.left in
    let right = alone_fits b ctx cap (spread c.args.ys.now) c.in-Some.number c.in-Some.y.now only.second c.requires.right in
    (fields_fall c.args.xs.now c.in-Some.number c.in-Some.x.now (at_alone (spread c.args.xs.now) c.in-Some.number c.in-Some.x.now only.first) 5 t (omega arith) c.decreases, (within.0, (within.1.0, (within.1.1.0, (within.1.1.1, (left, right))))))

pub merge_cases-returns-in_ok-fields-in-Some : goal.merge_cases-returns-in_ok-fields-in-Some
merge_cases-returns-in_ok-fields-in-Some g t c =
    let b = g.B.Base.algebra in
    let ctx = c.args.ctx.now in
    let cap = g.B.Base.CAP in
    let way = c.args.way in
    let xs = spread c.args.xs.now in
    let ys = spread c.args.ys.now in
    let k = c.in-Some.number in
    let fields = c.in_ok-fields-in-Some.fields.items in
    let both = when_some _ c.both_alone.result _ c.in-Some.is c.both_alone.ensures in
    if_ok (λ r. spread r ≡ only c.len.result k fields) (λ r. cases_of r ≡ merged_cases b ctx cap way (cases_of c.args.xs.now) (cases_of c.args.ys.now)) c.one.result
    (λ r e. alone_merged (words_by b ctx cap way) (maps_by b ctx cap way) xs ys (spread r) k c.in-Some.x.now c.in-Some.y.now fields both (e ∙ ap (λ n. only n k fields) c.len.ensures) c.in_ok-fields-in-Some.ensures) c.one.ensures.value

pub merge_case-merge_parts-requires : goal.merge_case-merge_parts-requires
merge_case-merge_parts-requires g t c κs within =
    let b = g.B.Base.algebra in
    let ctx = c.args.ctx.now in
    let cap = g.B.Base.CAP in
    let way = c.args.way in
    let xs = spread c.args.xs.now in
    let ys = spread c.args.ys.now in
    let i = c.args.i in
    let us = c.deref-in-Some-Some.result.now in
    let vs = c.deref-in-Some-Some-3.result.now in
    let same : c.in-Some-Some.x.now.value.items ≡ us = sym (c.deref-in-Some-Some.ensures.value ∙ ap (λ v. v.items) c.deref.ensures) in
    let same_too : c.in-Some-Some.y.now.value.items ≡ vs = sym (c.deref-in-Some-Some-3.ensures.value ∙ ap (λ v. v.items) c.deref-in-Some-Some-2.ensures) in
    let x : get_or xs i None ≡ Some us = sym c.shared.ensures ∙ ap (λ o. option_map (λ f. f.now.value.items) o) c.in-Some-Some.is-0 ∙ ap (λ l. Some l) same in
    let y : get_or ys i None ≡ Some vs = sym c.shared-2.ensures ∙ ap (λ o. option_map (λ f. f.now.value.items) o) c.in-Some-Some.is-1 ∙ ap (λ l. Some l) same_too in
    let left = parts_fit_of b ctx cap (get_or xs i None) us x c.requires.left in
    let right = parts_fit_of b ctx cap (get_or ys i None) vs y c.requires.right in
    (fields_fall c.args.xs.now i us x 3 t (omega arith) c.decreases, (within.0, (within.1.0, (within.1.1.0, (within.1.1.1, (left, right))))))

-- ---- two values

pub merge-merge_cases-requires : goal.merge-merge_cases-requires
merge-merge_cases-requires g t c κs within =
    let b = g.B.Base.algebra in
    let ctx = c.args.ctx.now in
    let cap = g.B.Base.CAP in
    let way = c.args.way in
    let left = cases_fit_of b ctx cap c.args.x.now c.in-Data-Data.ty c.in-Data-Data.cases c.in-Data-Data.is-0 c.requires.left in
    let right = cases_fit_of b ctx cap c.args.y.now c.in-Data-Data._other c.in-Data-Data.others c.in-Data-Data.is-1 c.requires.right in
    let whole : weight (abs c.args.x.now) ≡ suc (cases_weight (cases_of c.in-Data-Data.cases)) = ap weight (ap abs c.in-Data-Data.is-0 ∙ abs_Data c.in-Data-Data.ty c.in-Data-Data.cases) in
    (omega (arith, whole, c.decreases), (within.0, (within.1.0, (within.1.1.0, (within.1.1.1, (left, right))))))

pub merge-returns-in-Flag-Flag : goal.merge-returns-in-Flag-Flag
merge-returns-in-Flag-Flag g t c =
    let b = g.B.Base.algebra in
    let ctx = c.args.ctx.now in
    let cap = g.B.Base.CAP in
    let way = c.args.way in
    flags_merged (words_by b ctx cap way) (maps_by b ctx cap way) c.args.x.now c.args.y.now c.in-Flag-Flag.t c.in-Flag-Flag.u c.join_ways.result c.in-Flag-Flag.is-0 c.in-Flag-Flag.is-1 c.join_ways.ensures

pub merge-returns-in_ok-merge_words-in-Word-Word : goal.merge-returns-in_ok-merge_words-in-Word-Word
merge-returns-in_ok-merge_words-in-Word-Word g t c =
    let b = g.B.Base.algebra in
    let ctx = c.args.ctx.now in
    let cap = g.B.Base.CAP in
    let way = c.args.way in
    words_merged (words_by b ctx cap way) (maps_by b ctx cap way) c.args.x.now c.args.y.now c.in-Word-Word.w c.in-Word-Word.u c.in-Word-Word.word c.in-Word-Word.other c.in_ok-merge_words-in-Word-Word.field-0 c.in-Word-Word.is-0 c.in-Word-Word.is-1 c.if-w-u.true c.in_ok-merge_words-in-Word-Word.ensures.value

pub merge-returns-in_ok-merge_maps-in-Map-Map : goal.merge-returns-in_ok-merge_maps-in-Map-Map
merge-returns-in_ok-merge_maps-in-Map-Map g t c =
    let b = g.B.Base.algebra in
    let ctx = c.args.ctx.now in
    let cap = g.B.Base.CAP in
    let way = c.args.way in
    maps_merged (words_by b ctx cap way) (maps_by b ctx cap way) c.args.x.now c.args.y.now c.in-Map-Map.map c.in-Map-Map.n c.in-Map-Map.m c.in-Map-Map.other c.in_ok-merge_maps-in-Map-Map.field-0 c.width.result c.width-then-map-n.result c.in-Map-Map.is-0 c.in-Map-Map.is-1 c.if-map-n.true c.width.ensures c.width-then-map-n.ensures c.if-width.true c.in_ok-merge_maps-in-Map-Map.ensures.value

pub merge-returns-in_ok-merge_cases-in-Data-Data : goal.merge-returns-in_ok-merge_cases-in-Data-Data
merge-returns-in_ok-merge_cases-in-Data-Data g t c =
    let b = g.B.Base.algebra in
    let ctx = c.args.ctx.now in
    let cap = g.B.Base.CAP in
    let way = c.args.way in
    made_merged (words_by b ctx cap way) (maps_by b ctx cap way) c.args.x.now c.args.y.now c.in-Data-Data.ty c.in-Data-Data._other c.in-Data-Data.cases c.in-Data-Data.others c.in_ok-merge_cases-in-Data-Data.field-0 c.in-Data-Data.is-0 c.in-Data-Data.is-1 c.in_ok-merge_cases-in-Data-Data.ensures

pub merge-merge_words-requires-clause-width : goal.merge-merge_words-requires-clause-width
merge-merge_words-requires-clause-width g t c =
    let b = g.B.Base.algebra in
    let ctx = c.args.ctx.now in
    let cap = g.B.Base.CAP in
    (word_fits_of b ctx cap c.args.x.now c.in-Word-Word.w c.in-Word-Word.word c.in-Word-Word.is-0 c.requires.left).0

pub merge-merge_words-requires-clause-left : goal.merge-merge_words-requires-clause-left
merge-merge_words-requires-clause-left g t c =
    let b = g.B.Base.algebra in
    let ctx = c.args.ctx.now in
    let cap = g.B.Base.CAP in
    (word_fits_of b ctx cap c.args.x.now c.in-Word-Word.w c.in-Word-Word.word c.in-Word-Word.is-0 c.requires.left).1

pub merge-merge_words-requires-clause-right : goal.merge-merge_words-requires-clause-right
merge-merge_words-requires-clause-right g t c =
    let b = g.B.Base.algebra in
    let ctx = c.args.ctx.now in
    let cap = g.B.Base.CAP in
    other_fits_of b ctx cap c.args.y.now c.in-Word-Word.w c.in-Word-Word.u c.in-Word-Word.other c.in-Word-Word.is-1 c.if-w-u.true c.requires.right

pub merge-merge_maps-requires-clause-left : goal.merge-merge_maps-requires-clause-left
merge-merge_maps-requires-clause-left g t c =
    let b = g.B.Base.algebra in
    let ctx = c.args.ctx.now in
    let cap = g.B.Base.CAP in
    map_fits_of b ctx cap c.args.x.now c.in-Map-Map.map c.in-Map-Map.m c.in-Map-Map.is-0 c.requires.left

pub merge-merge_maps-requires-clause-right : goal.merge-merge_maps-requires-clause-right
merge-merge_maps-requires-clause-right g t c =
    let b = g.B.Base.algebra in
    let ctx = c.args.ctx.now in
    let cap = g.B.Base.CAP in
    map_fits_of b ctx cap c.args.y.now c.in-Map-Map.n c.in-Map-Map.other c.in-Map-Map.is-1 c.requires.right

pub merge_parts-merge-requires : goal.merge_parts-merge-requires
merge_parts-merge-requires g t c κs within =
    let b = g.B.Base.algebra in
    let ctx = c.args.ctx.now in
    let cap = g.B.Base.CAP in
    let xs = c.args.xs.now in
    let ys = c.args.ys.now in
    let i = c.loop-i.i in
    let below = below_min i c.min-i-end.result (length xs) (length ys) c.loop-i-test.true c.min-i-end.ensures in
    let left = parts_fit_here b ctx cap xs i c.index-xs-i.result c.index-xs-i.is below.0 c.loop-i.invariant.left in
    let right = parts_fit_here b ctx cap ys i c.index-ys-i.result c.index-ys-i.is below.1 c.loop-i.invariant.right in
    (value_falls xs i c.index-xs-i.result c.index-xs-i.is below.0 t c.decreases, (within.0, (within.1.0, (within.1.1.0, (within.1.1.1, (left.0, right.0))))))
