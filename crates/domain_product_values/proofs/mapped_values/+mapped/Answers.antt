use Rattle.std.proofs.Common.{◌≡◌, ◌<◌, ◌≤◌, None, get_or, length, option_map, map, suc, Some, ap, sym, subst, refl, ◌∙◌, arith}
use Rattle.abstract_value_laws.specs.Abs as v
use Rattle.abstract_value_laws.specs.Abs.{cases, cases_onto, made, parts, parts_onto}
use Rattle.abstract_value_laws.specs.Fits.{CaseFits, CasesFit, Fits, PartsFit}
use Rattle.abstract_value.specs.Constructors.{spread}
use Rattle.abstract_value.specs.View.{abs, case_of, cases_of}
use Rattle.abstract_value.proofs.Places.{at_itself}
use Rattle.abstract_value.proofs.Views.{abs_Data, abs_Flag, abs_Map, abs_Word}
use Rattle.domain_product_laws.specs.Calls.{mapped_cases, mapped_map, mapped_parts, mapped_value}
use Rattle.domain_product_values.specs.Cases.{mapped_case}
use Rattle.domain_product_values.proofs.Values.{case_is, grown_view, mapped_as, mapped_cases_done, mapped_cases_fit_on, mapped_cases_more, mapped_data_is, mapped_parts_done, mapped_parts_fit_on, mapped_parts_more, pushed_view}
use Rattle.abstract_value.proofs.Weights.{case_weighs, case_weight, cases_weight, part_weighs, parts_weight, weight}
use Rattle.domain_product_values.proofs.mapped_values.+mapped.Goals as goal
use Rattle.spec_match_compiler.proofs.Loops.{drop_here}

pub mapped_parts-loop-x-preserved : goal.mapped_parts-loop-x-preserved
mapped_parts-loop-x-preserved g t c =
    let word = g.P.ProductPart.word_of in
    let note = g.P.ProductPart.note_of in
    let xs = c.args.xs.now in
    let i = c.loop-x.x-index in
    let x = c.x-item.result in
    let ex = drop_here xs i x c.x-item.is c.loop-x-test.true in
    record {
      whole = mapped_parts_more word note xs i x ex (λ v. abs v) (map abs c.loop-x.out.items) (map abs c.in_ok-out.out.items) (mapped_parts word note (parts (map abs xs)))
          (pushed_view (λ v. abs v) c.loop-x.out.items c.in_ok-out.out.items c.mapped_value.result (mapped_value word note (abs x)) c.in_ok-out.ensures c.mapped_value.ensures) c.loop-x.invariant.whole;
      fits = (mapped_parts_fit_on word note xs i x ex g.P.To.Base.algebra c.args.ctx.now g.P.To.Base.CAP (λ v. abs v) c.loop-x.invariant.fits).1;
    }

pub mapped_cases-loop-i-preserved : goal.mapped_cases-loop-i-preserved
mapped_cases-loop-i-preserved g t c =
    let word = g.P.ProductPart.word_of in
    let note = g.P.ProductPart.note_of in
    let xs = spread c.args.xs.now in
    let i = c.loop-i.i in
    let x = get_or xs i None in
    let below : i < length xs = subst (λ n. i < n) c.len-i-end.ensures c.loop-i-test.true in
    let ex = drop_here xs i x (at_itself xs i None below) below in
    record {
      whole = mapped_cases_more word note xs i x ex (λ v. case_of v) (map case_of (spread c.loop-i.out)) (map case_of (spread c.in_ok-out.out)) (mapped_cases word note (cases (map case_of xs)))
          (grown_view (λ v. case_of v) (λ r. option_map (λ f. f.value.items) r) (spread c.loop-i.out) (spread c.in_ok-out.out) c.mapped_case.result (mapped_case word note (case_of x)) c.in_ok-out.ensures.value c.mapped_case.ensures) c.loop-i.invariant.whole;
      within = c.in_ok-out.ensures.within;
      fits = (mapped_cases_fit_on word note xs i x ex g.P.To.Base.algebra c.args.ctx.now g.P.To.Base.CAP (λ v. case_of v) c.loop-i.invariant.fits).1;
    }

pub mapped_parts-returns : goal.mapped_parts-returns
mapped_parts-returns g t c =
    let word = g.P.ProductPart.word_of in
    let note = g.P.ProductPart.note_of in
    mapped_parts_done word note c.args.xs.now c.loop-x.x-index c.loop-x-test.false (λ v. abs v) (map abs c.loop-x.out.items) (mapped_parts word note (parts (map abs c.args.xs.now))) c.loop-x.invariant.whole

pub mapped_cases-returns : goal.mapped_cases-returns
mapped_cases-returns g t c =
    let word = g.P.ProductPart.word_of in
    let note = g.P.ProductPart.note_of in
    let xs = spread c.args.xs.now in
    mapped_cases_done word note xs c.loop-i.i (subst (λ n. n ≤ c.loop-i.i) c.len-i-end.ensures c.loop-i-test.false) (λ v. case_of v) (map case_of (spread c.loop-i.out)) (mapped_cases word note (cases (map case_of xs))) c.loop-i.invariant.whole

pub mapped_parts-mapped_value-requires : goal.mapped_parts-mapped_value-requires
mapped_parts-mapped_value-requires g t c κs within =
    let word = g.P.ProductPart.word_of in
    let note = g.P.ProductPart.note_of in
    let xs = c.args.xs.now in
    let i = c.loop-x.x-index in
    let x = c.x-item.result in
    let ex = drop_here xs i x c.x-item.is c.loop-x-test.true in
    let fits = (mapped_parts_fit_on word note xs i x ex g.P.To.Base.algebra c.args.ctx.now g.P.To.Base.CAP (λ v. abs v) c.loop-x.invariant.fits).0 in
    let less = part_weighs (λ v. abs v) xs i x ex in
    (omega (arith, less, c.decreases), (within.0, (within.1.0, (within.1.1.0, (within.1.1.1.0, (within.1.1.1.1.0, (within.1.1.1.1.1.0, (within.1.1.1.1.1.1.0, (within.1.1.1.1.1.1.1.0, (within.1.1.1.1.1.1.1.1, fits))))))))))

pub mapped_cases-mapped_case-requires : goal.mapped_cases-mapped_case-requires
mapped_cases-mapped_case-requires g t c κs within =
    let word = g.P.ProductPart.word_of in
    let note = g.P.ProductPart.note_of in
    let xs = spread c.args.xs.now in
    let i = c.loop-i.i in
    let x = get_or xs i None in
    let below : i < length xs = subst (λ n. i < n) c.len-i-end.ensures c.loop-i-test.true in
    let ex = drop_here xs i x (at_itself xs i None below) below in
    let fits = (mapped_cases_fit_on word note xs i x ex g.P.To.Base.algebra c.args.ctx.now g.P.To.Base.CAP (λ v. case_of v) c.loop-i.invariant.fits).0 in
    let less = case_weighs (λ v. case_of v) xs i x ex in
    (omega (arith, less, c.decreases), (within.0, (within.1.0, (within.1.1.0, (within.1.1.1.0, (within.1.1.1.1.0, (within.1.1.1.1.1.0, (within.1.1.1.1.1.1.0, (within.1.1.1.1.1.1.1.0, (within.1.1.1.1.1.1.1.1, fits))))))))))

pub mapped_case-mapped_parts-requires : goal.mapped_case-mapped_parts-requires
mapped_case-mapped_parts-requires g t c κs within =
    let to = g.P.To.Base.algebra in
    let cap = g.P.To.Base.CAP in
    let ctx = c.args.ctx.now in
    let word = g.P.ProductPart.word_of in
    let note = g.P.ProductPart.note_of in
    let xs = spread c.args.xs.now in
    let f = c.in-Some.fields.now in
    let found : get_or xs c.args.i None ≡ Some f = sym c.fields.ensures ∙ ap (λ o. option_map (λ f. f.now) o) c.in-Some.is in
    let fits = subst (λ o. CaseFits to ctx cap (mapped_case word note (case_of o))) found c.requires.fits in
    let whole : case_weight (case_of (get_or xs c.args.i None)) ≡ suc (parts_weight (parts (map abs f))) = ap (λ o. case_weight (case_of o)) found in
    (omega (arith, whole, c.decreases), (within.0, (within.1.0, (within.1.1.0, (within.1.1.1.0, (within.1.1.1.1.0, (within.1.1.1.1.1.0, (within.1.1.1.1.1.1.0, (within.1.1.1.1.1.1.1.0, (within.1.1.1.1.1.1.1.1, fits))))))))))

pub mapped_value-mapped_cases-requires : goal.mapped_value-mapped_cases-requires
mapped_value-mapped_cases-requires g t c κs within =
    let to = g.P.To.Base.algebra in
    let cap = g.P.To.Base.CAP in
    let ctx = c.args.ctx.now in
    let word = g.P.ProductPart.word_of in
    let note = g.P.ProductPart.note_of in
    let ex = ap abs c.in-Data.is ∙ abs_Data c.in-Data.ty c.in-Data.cases in
    let fits = subst (λ z. Fits to ctx cap (mapped_value word note z)) ex c.requires.fits in
    let whole : weight (abs c.args.x.now) ≡ suc (cases_weight (cases_of c.in-Data.cases)) = ap (λ z. weight z) ex in
    (omega (arith, whole, c.decreases), (within.0, (within.1.0, (within.1.1.0, (within.1.1.1.0, (within.1.1.1.1.0, (within.1.1.1.1.1.0, (within.1.1.1.1.1.1.0, (within.1.1.1.1.1.1.1.0, (within.1.1.1.1.1.1.1.1, fits))))))))))

pub mapped_case-returns-in-Some : goal.mapped_case-returns-in-Some
mapped_case-returns-in-Some g t c =
    let word = g.P.ProductPart.word_of in
    let note = g.P.ProductPart.note_of in
    let found : get_or (spread c.args.xs.now) c.args.i None ≡ Some c.in-Some.fields.now = sym c.fields.ensures ∙ ap (λ o. option_map (λ f. f.now) o) c.in-Some.is in
    case_is (λ r. option_map (λ f. f.value.items) r) c.mapped_parts.result c.present.result (mapped_parts word note (parts (map abs c.in-Some.fields.now))) (mapped_case word note (case_of (get_or (spread c.args.xs.now) c.args.i None)))
    (ap (λ o. mapped_case word note (case_of o)) found) c.mapped_parts.ensures c.present.ensures

pub mapped_value-returns-in-Data : goal.mapped_value-returns-in-Data
mapped_value-returns-in-Data g t c =
    let ty = c.in-Data.ty in
    mapped_data_is g.P.ProductPart.word_of g.P.ProductPart.note_of (λ v. cases_of v) (λ v. abs v) c.mapped_cases.result c.mapped_data.result ty (abs c.args.x.now) (cases_of c.in-Data.cases) (cases_of c.in-Data.cases)
    (ap abs c.in-Data.is ∙ abs_Data ty c.in-Data.cases) refl c.mapped_cases.ensures c.mapped_data.ensures

pub mapped_value-returns-in-Map : goal.mapped_value-returns-in-Map
mapped_value-returns-in-Map g t c =
    let word = g.P.ProductPart.word_of in
    let note = g.P.ProductPart.note_of in
    let n = c.in-Map.map in
    let m = c.in-Map.m in
    mapped_as word note (λ v. abs v) c.mapped_cells_of.result (abs c.args.x.now) (v.map n m) (v.map n (mapped_map word note m)) (ap abs c.in-Map.is ∙ abs_Map _ _ n m) refl c.mapped_cells_of.ensures

pub mapped_value-returns-in-Word : goal.mapped_value-returns-in-Word
mapped_value-returns-in-Word g t c =
    let word = g.P.ProductPart.word_of in
    let note = g.P.ProductPart.note_of in
    let w = c.in-Word.w in
    let x = c.in-Word.x in
    mapped_as word note (λ v. abs v) c.mapped_word.result (abs c.args.x.now) (v.word w x) (v.word w (word x)) (ap abs c.in-Word.is ∙ abs_Word _ _ _ w x) refl c.mapped_word.ensures

pub mapped_value-returns-in-Flag : goal.mapped_value-returns-in-Flag
mapped_value-returns-in-Flag g t c =
    let word = g.P.ProductPart.word_of in
    let note = g.P.ProductPart.note_of in
    let u = c.in-Flag.t in
    abs_Flag _ _ _ _ u ∙ sym (ap (λ z. mapped_value word note z) (ap abs c.in-Flag.is ∙ abs_Flag _ _ _ _ u))

pub mapped_parts-loop-x-init : goal.mapped_parts-loop-x-init
mapped_parts-loop-x-init g t c = record {
  whole = ap (λ l. parts_onto (map abs l) (mapped_parts g.P.ProductPart.word_of g.P.ProductPart.note_of (parts (map abs c.args.xs.now)))) c.new-out.ensures.items;
  fits = c.requires.fits;
}

pub mapped_cases-loop-i-init : goal.mapped_cases-loop-i-init
mapped_cases-loop-i-init g t c = record {
  whole = ap (λ l. cases_onto (map case_of l) (mapped_cases g.P.ProductPart.word_of g.P.ProductPart.note_of (cases_of c.args.xs.now))) c.none-out.ensures.value;
  within = c.none-out.ensures.within;
  fits = c.requires.fits;
}
