use Rattle.std.proofs.Common.{ap, sym, subst, refl, ◌∙◌, ◌≡◌, ◌<◌, None, get_or, length, option_map, min, max, map, suc, Some, arith}
use Rattle.abstract_value_laws.specs.Abs as v
use Rattle.abstract_value_laws.specs.Abs.{cases, cases_onto, made, parts, parts_onto}
use Rattle.abstract_value_laws.specs.Fits.{CaseFits, CasesFit, Fits, PartsFit}
use Rattle.abstract_value.specs.Constructors.{spread}
use Rattle.abstract_value.specs.View.{abs, case_of, cases_of}
use Rattle.abstract_value.proofs.Places.{at_itself}
use Rattle.abstract_value.proofs.Views.{abs_Data, abs_Flag, abs_Map, abs_Word}
use Rattle.domain_product_laws.specs.Calls.{zip_cases, zip_parts, zip_value}
use Rattle.domain_product_laws.proofs.Values.{CasesMeet, Meet, PartsMeet}
use Rattle.domain_product_values.specs.Cases.{CaseMeets, zip_case}
use Rattle.domain_product_values.proofs.Values.{case_is, grown_view, cases_fit_on, cases_meet_on, parts_fit_on, parts_meet_on, pushed_view, zip_cases_done, zip_cases_more, zip_parts_done, zip_parts_more, zipped_as, zipped_data}
use Rattle.abstract_value.proofs.Weights.{case_weight, case_weighs, cases_weight, part_weighs, parts_weight, weight}
use Rattle.domain_product_values.proofs.zipped_values.+zip.Goals as goal
use Rattle.spec_match_compiler.proofs.Loops.{drop_here}

pub zip_parts-loop-i-preserved : goal.zip_parts-loop-i-preserved
zip_parts-loop-i-preserved g t c =
    let a = g.A.Base.algebra in
    let b = g.B.Base.algebra in
    let ctx = c.args.ctx.now in
    let cap = max g.A.Base.CAP g.B.Base.CAP in
    let xs = c.args.xs.now in
    let ys = c.args.ys.now in
    let i = c.loop-i.i in
    let x = c.index-xs-i.result in
    let y = c.index-ys-i.result in
    let ex = drop_here xs i x c.index-xs-i.is (omega arith) in
    let ey = drop_here ys i y c.index-ys-i.is (omega arith) in
    record {
      whole = zip_parts_more a b ctx cap xs ys i x y ex ey (λ v. abs v) (λ v. abs v) (map abs c.loop-i.out.items) (map abs c.in_ok-out.out.items) (zip_parts a b ctx cap (parts (map abs xs)) (parts (map abs ys)))
          (pushed_view (λ v. abs v) c.loop-i.out.items c.in_ok-out.out.items c.zip_value.result (zip_value a b ctx cap (abs x) (abs y)) c.in_ok-out.ensures c.zip_value.ensures) c.loop-i.invariant.whole;
      left = (parts_fit_on a ctx.0 g.A.Base.CAP (λ v. abs v) xs i x ex c.loop-i.invariant.left).1;
      right = (parts_fit_on b ctx.1 g.B.Base.CAP (λ v. abs v) ys i y ey c.loop-i.invariant.right).1;
      widths = (parts_meet_on xs ys i x y ex ey (λ v. abs v) (λ v. abs v) c.loop-i.invariant.widths).1;
    }

pub zip_cases-loop-i-preserved : goal.zip_cases-loop-i-preserved
zip_cases-loop-i-preserved g t c =
    let a = g.A.Base.algebra in
    let b = g.B.Base.algebra in
    let ctx = c.args.ctx.now in
    let cap = max g.A.Base.CAP g.B.Base.CAP in
    let xs = spread c.args.xs.now in
    let ys = spread c.args.ys.now in
    let i = c.loop-i.i in
    let least : c.min-i-end.result ≡ min (length xs) (length ys) = rw (← c.len.ensures, ← c.len-2.ensures) c.min-i-end.ensures in
    let first : i < length xs = omega (arith, least) in
    let second : i < length ys = omega (arith, least) in
    let x = get_or xs i None in
    let y = get_or ys i None in
    let ex = drop_here xs i x (at_itself xs i None first) first in
    let ey = drop_here ys i y (at_itself ys i None second) second in
    record {
      whole = zip_cases_more a b ctx cap xs ys i x y ex ey (λ v. case_of v) (λ v. case_of v) (map case_of (spread c.loop-i.out)) (map case_of (spread c.in_ok-out.out)) (zip_cases a b ctx cap (cases (map case_of xs)) (cases (map case_of ys)))
          (grown_view (λ v. case_of v) (λ r. option_map (λ f. f.value.items) r) (spread c.loop-i.out) (spread c.in_ok-out.out) c.zip_case.result (zip_case a b ctx cap (case_of x) (case_of y)) c.in_ok-out.ensures.value c.zip_case.ensures) c.loop-i.invariant.whole;
      within = c.in_ok-out.ensures.within;
      left = (cases_fit_on a ctx.0 g.A.Base.CAP (λ v. case_of v) xs i x ex c.loop-i.invariant.left).1;
      right = (cases_fit_on b ctx.1 g.B.Base.CAP (λ v. case_of v) ys i y ey c.loop-i.invariant.right).1;
      widths = (cases_meet_on xs ys i x y ex ey (λ v. case_of v) (λ v. case_of v) c.loop-i.invariant.widths).1;
    }

pub zip_parts-returns : goal.zip_parts-returns
zip_parts-returns g t c =
    let a = g.A.Base.algebra in
    let b = g.B.Base.algebra in
    let cap = max g.A.Base.CAP g.B.Base.CAP in
    let xs = c.args.xs.now in
    let ys = c.args.ys.now in
    zip_parts_done a b c.args.ctx.now cap (λ v. abs v) (λ v. abs v) xs ys c.loop-i.i (map abs c.loop-i.out.items) (zip_parts a b c.args.ctx.now cap (parts (map abs xs)) (parts (map abs ys)))
    (let end = c.min-i-end.ensures in omega (arith, end)) c.loop-i.invariant.whole

pub zip_cases-returns : goal.zip_cases-returns
zip_cases-returns g t c =
    let a = g.A.Base.algebra in
    let b = g.B.Base.algebra in
    let cap = max g.A.Base.CAP g.B.Base.CAP in
    let xs = spread c.args.xs.now in
    let ys = spread c.args.ys.now in
    let least : c.min-i-end.result ≡ min (length xs) (length ys) = rw (← c.len.ensures, ← c.len-2.ensures) c.min-i-end.ensures in
    zip_cases_done a b c.args.ctx.now cap (λ v. case_of v) (λ v. case_of v) xs ys c.loop-i.i (map case_of (spread c.loop-i.out)) (zip_cases a b c.args.ctx.now cap (cases (map case_of xs)) (cases (map case_of ys)))
    (omega (arith, least)) c.loop-i.invariant.whole

pub zip_case-zip_parts-requires : goal.zip_case-zip_parts-requires
zip_case-zip_parts-requires g t c κs within =
    let a = g.A.Base.algebra in
    let b = g.B.Base.algebra in
    let ctx = c.args.ctx.now in
    let xs = spread c.args.xs.now in
    let ys = spread c.args.ys.now in
    let i = c.args.i in
    let us = c.in-Some-Some.x.now in
    let ws = c.in-Some-Some.y.now in
    let ex : get_or xs i None ≡ Some us = sym c.fields.ensures ∙ ap (λ o. option_map (λ f. f.now) o) c.in-Some-Some.is-0 in
    let ey : get_or ys i None ≡ Some ws = sym c.fields-2.ensures ∙ ap (λ o. option_map (λ f. f.now) o) c.in-Some-Some.is-1 in
    let left = subst (λ o. CaseFits a ctx.0 g.A.Base.CAP (case_of o)) ex c.requires.left in
    let right = subst (λ o. CaseFits b ctx.1 g.B.Base.CAP (case_of o)) ey c.requires.right in
    let widths = subst (λ o. CaseMeets (case_of (Some us)) (case_of o)) ey (subst (λ o. CaseMeets (case_of o) (case_of (get_or ys i None))) ex c.requires.widths) in
    let whole : case_weight (case_of (get_or xs i None)) ≡ suc (parts_weight (parts (map abs us))) = ap (λ o. case_weight (case_of o)) ex in
    (omega (arith, whole, c.decreases), (within.0, (within.1.0, (within.1.1.0, (within.1.1.1.0, (within.1.1.1.1.0, (within.1.1.1.1.1.0, (within.1.1.1.1.1.1.0, (within.1.1.1.1.1.1.1, (left, (right, widths)))))))))))

pub zip_parts-zip_value-requires : goal.zip_parts-zip_value-requires
zip_parts-zip_value-requires g t c κs within =
    let a = g.A.Base.algebra in
    let b = g.B.Base.algebra in
    let ctx = c.args.ctx.now in
    let xs = c.args.xs.now in
    let ys = c.args.ys.now in
    let i = c.loop-i.i in
    let x = c.index-xs-i.result in
    let y = c.index-ys-i.result in
    let ex = drop_here xs i x c.index-xs-i.is (omega arith) in
    let ey = drop_here ys i y c.index-ys-i.is (omega arith) in
    let left = (parts_fit_on a ctx.0 g.A.Base.CAP (λ v. abs v) xs i x ex c.loop-i.invariant.left).0 in
    let right = (parts_fit_on b ctx.1 g.B.Base.CAP (λ v. abs v) ys i y ey c.loop-i.invariant.right).0 in
    let widths = (parts_meet_on xs ys i x y ex ey (λ v. abs v) (λ v. abs v) c.loop-i.invariant.widths).0 in
    let less = part_weighs (λ v. abs v) xs i x ex in
    (omega (arith, less, c.decreases), (within.0, (within.1.0, (within.1.1.0, (within.1.1.1.0, (within.1.1.1.1.0, (within.1.1.1.1.1.0, (within.1.1.1.1.1.1.0, (within.1.1.1.1.1.1.1, (left, (right, widths)))))))))))

pub zip_value-zip_cases-requires : goal.zip_value-zip_cases-requires
zip_value-zip_cases-requires g t c κs within =
    let a = g.A.Base.algebra in
    let b = g.B.Base.algebra in
    let ctx = c.args.ctx.now in
    let cs = cases_of c.in-Data.cases in
    let ex = ap abs c.in-Data.is ∙ abs_Data c.in-Data.ty c.in-Data.cases in
    let ey = ap abs c.in-Data-y.is ∙ abs_Data c.in-Data-y._ty c.in-Data-y.others in
    let left = subst (Fits a ctx.0 g.A.Base.CAP) ex c.requires.left in
    let right = subst (Fits b ctx.1 g.B.Base.CAP) ey c.requires.right in
    let widths = subst (λ z. Meet (made c.in-Data.ty cs) z) ey (subst (λ z. Meet z (abs c.args.y.now)) ex c.requires.widths) in
    let whole : weight (abs c.args.x.now) ≡ suc (cases_weight cs) = ap (λ z. weight z) ex in
    (omega (arith, whole, c.decreases), (within.0, (within.1.0, (within.1.1.0, (within.1.1.1.0, (within.1.1.1.1.0, (within.1.1.1.1.1.0, (within.1.1.1.1.1.1.0, (within.1.1.1.1.1.1.1, (left, (right, widths)))))))))))

pub zip_value-returns-in-Data-y : goal.zip_value-returns-in-Data-y
zip_value-returns-in-Data-y g t c =
    let ty = c.in-Data.ty in
    let tz = c.in-Data-y._ty in
    let cs = cases_of c.in-Data.cases in
    let ds = cases_of c.in-Data-y.others in
    zipped_data g.A.Base.algebra g.B.Base.algebra c.args.ctx.now (max g.A.Base.CAP g.B.Base.CAP) (λ v. cases_of v) (λ v. abs v) c.zip_cases.result c.zip_data.result ty tz (abs c.args.x.now) (abs c.args.y.now) cs cs ds ds
    (ap abs c.in-Data.is ∙ abs_Data ty c.in-Data.cases) (ap abs c.in-Data-y.is ∙ abs_Data tz c.in-Data-y.others) refl refl c.zip_cases.ensures c.zip_data.ensures

pub zip_value-returns-in-Flag : goal.zip_value-returns-in-Flag
zip_value-returns-in-Flag g t c =
    let y = abs c.args.y.now in
    c.zip_flag.ensures c.args.ctx.now ∙ sym (ap (λ z. zip_value g.A.Base.algebra g.B.Base.algebra c.args.ctx.now (max g.A.Base.CAP g.B.Base.CAP) z y) (ap abs c.in-Flag.is ∙ abs_Flag _ _ _ _ c.in-Flag.t))

pub zip_cases-zip_case-requires : goal.zip_cases-zip_case-requires
zip_cases-zip_case-requires g t c κs within =
    let a = g.A.Base.algebra in
    let b = g.B.Base.algebra in
    let ctx = c.args.ctx.now in
    let xs = spread c.args.xs.now in
    let ys = spread c.args.ys.now in
    let i = c.loop-i.i in
    let least : c.min-i-end.result ≡ min (length xs) (length ys) = rw (← c.len.ensures, ← c.len-2.ensures) c.min-i-end.ensures in
    let first : i < length xs = omega (arith, least) in
    let second : i < length ys = omega (arith, least) in
    let x = get_or xs i None in
    let y = get_or ys i None in
    let ex = drop_here xs i x (at_itself xs i None first) first in
    let ey = drop_here ys i y (at_itself ys i None second) second in
    let left = (cases_fit_on a ctx.0 g.A.Base.CAP (λ v. case_of v) xs i x ex c.loop-i.invariant.left).0 in
    let right = (cases_fit_on b ctx.1 g.B.Base.CAP (λ v. case_of v) ys i y ey c.loop-i.invariant.right).0 in
    let widths = (cases_meet_on xs ys i x y ex ey (λ v. case_of v) (λ v. case_of v) c.loop-i.invariant.widths).0 in
    let less = case_weighs (λ v. case_of v) xs i x ex in
    (omega (arith, less, c.decreases), (within.0, (within.1.0, (within.1.1.0, (within.1.1.1.0, (within.1.1.1.1.0, (within.1.1.1.1.1.0, (within.1.1.1.1.1.1.0, (within.1.1.1.1.1.1.1, (left, (right, widths)))))))))))

pub zip_case-returns-in-Some-Some : goal.zip_case-returns-in-Some-Some
zip_case-returns-in-Some-Some g t c =
    let a = g.A.Base.algebra in
    let b = g.B.Base.algebra in
    let ctx = c.args.ctx.now in
    let cap = max g.A.Base.CAP g.B.Base.CAP in
    let xs = spread c.args.xs.now in
    let ys = spread c.args.ys.now in
    let i = c.args.i in
    let us = c.in-Some-Some.x.now in
    let ws = c.in-Some-Some.y.now in
    let ex : get_or xs i None ≡ Some us = sym c.fields.ensures ∙ ap (λ o. option_map (λ f. f.now) o) c.in-Some-Some.is-0 in
    let ey : get_or ys i None ≡ Some ws = sym c.fields-2.ensures ∙ ap (λ o. option_map (λ f. f.now) o) c.in-Some-Some.is-1 in
    case_is (λ r. option_map (λ f. f.value.items) r) c.zip_parts.result c.present.result (zip_parts a b ctx cap (parts (map abs us)) (parts (map abs ws))) (zip_case a b ctx cap (case_of (get_or xs i None)) (case_of (get_or ys i None)))
    (ap (λ o. zip_case a b ctx cap (case_of o) (case_of (get_or ys i None))) ex ∙ ap (λ o. zip_case a b ctx cap (case_of (Some us)) (case_of o)) ey) c.zip_parts.ensures c.present.ensures

pub zip_parts-loop-i-init : goal.zip_parts-loop-i-init
zip_parts-loop-i-init g t c = record {
  whole = ap (λ l. parts_onto (map abs l) (zip_parts g.A.Base.algebra g.B.Base.algebra c.args.ctx.now (max g.A.Base.CAP g.B.Base.CAP) (parts (map abs c.args.xs.now)) (parts (map abs c.args.ys.now)))) c.new-out.ensures.items;
  left = c.requires.left;
  right = c.requires.right;
  widths = c.requires.widths;
}

pub zip_cases-loop-i-init : goal.zip_cases-loop-i-init
zip_cases-loop-i-init g t c = record {
  whole = ap (λ l. cases_onto (map case_of l) (zip_cases g.A.Base.algebra g.B.Base.algebra c.args.ctx.now (max g.A.Base.CAP g.B.Base.CAP) (cases_of c.args.xs.now) (cases_of c.args.ys.now))) c.none-out.ensures.value;
  within = c.none-out.ensures.within;
  left = c.requires.left;
  right = c.requires.right;
  widths = c.requires.widths;
}

pub zip_value-returns-in-Word : goal.zip_value-returns-in-Word
zip_value-returns-in-Word g t c =
    zipped_as g.A.Base.algebra g.B.Base.algebra c.args.ctx.now (max g.A.Base.CAP g.B.Base.CAP) (λ v. abs v) c.zip_word.result (abs c.args.x.now) (v.word c.in-Word.w c.in-Word.word) (abs c.args.y.now)
    (ap abs c.in-Word.is ∙ abs_Word _ _ _ c.in-Word.w c.in-Word.word) c.zip_word.ensures

pub zip_value-returns-in-Map : goal.zip_value-returns-in-Map
zip_value-returns-in-Map g t c =
    zipped_as g.A.Base.algebra g.B.Base.algebra c.args.ctx.now (max g.A.Base.CAP g.B.Base.CAP) (λ v. abs v) c.zip_map_and.result (abs c.args.x.now) (v.map c.in-Map.map c.in-Map.m) (abs c.args.y.now)
    (ap abs c.in-Map.is ∙ abs_Map _ _ c.in-Map.map c.in-Map.m) c.zip_map_and.ensures
