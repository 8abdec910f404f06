use Rattle.std.proofs.Common.{◌≡◌, None, get_or, map, drop, max}
use Rattle.abstract_value_laws.specs.Abs.{cases, cases_onto, parts, parts_onto}
use Rattle.abstract_value_laws.specs.Fits.{CasesFit, PartsFit}
use Rattle.abstract_value.specs.Constructors.{AreWithin, spread}
use Rattle.abstract_value.specs.View.{abs, case_of, cases_of}
use Rattle.domain_product_laws.specs.Calls.{zip_cases, zip_parts}
use Rattle.domain_product_laws.proofs.Values.{CasesMeet, PartsMeet}
use Rattle.abstract_value.proofs.Weights.{case_weight, cases_weight, parts_weight, weight}
use Rattle.domain_product_values.proofs.zipped_values.+zip.Given as goal

abbrev pub invariant-zip_cases-loop-i : goal.invariant-zip_cases-loop-i
invariant-zip_cases-loop-i g l =
    let a = g.A.Base.algebra in
    let b = g.B.Base.algebra in
    let cap = max g.A.Base.CAP g.B.Base.CAP in
    let xs = cases (map case_of (drop l.i (spread l.xs))) in
    let ys = cases (map case_of (drop l.i (spread l.ys))) in
    record {
      whole : cases_onto (map case_of (spread l.out)) (zip_cases a b l.ctx cap xs ys) ≡ zip_cases a b l.ctx cap (cases_of l.xs) (cases_of l.ys);
      within : AreWithin l.out;
      left : CasesFit a l.ctx.0 g.A.Base.CAP xs;
      right : CasesFit b l.ctx.1 g.B.Base.CAP ys;
      widths : CasesMeet xs ys;
    }

abbrev pub invariant-zip_parts-loop-i : goal.invariant-zip_parts-loop-i
invariant-zip_parts-loop-i g l =
    let a = g.A.Base.algebra in
    let b = g.B.Base.algebra in
    let cap = max g.A.Base.CAP g.B.Base.CAP in
    let xs = parts (map abs (drop l.i l.xs)) in
    let ys = parts (map abs (drop l.i l.ys)) in
    record {
      whole : parts_onto (map abs l.out.items) (zip_parts a b l.ctx cap xs ys) ≡ zip_parts a b l.ctx cap (parts (map abs l.xs)) (parts (map abs l.ys));
      left : PartsFit a l.ctx.0 g.A.Base.CAP xs;
      right : PartsFit b l.ctx.1 g.B.Base.CAP ys;
      widths : PartsMeet xs ys;
    }

abbrev pub decreases-zip_value : goal.decreases-zip_value
decreases-zip_value g l = weight (abs l.x.now)

abbrev pub decreases-zip_cases : goal.decreases-zip_cases
decreases-zip_cases g l = cases_weight (cases_of l.xs.now)

abbrev pub decreases-zip_parts : goal.decreases-zip_parts
decreases-zip_parts g l = parts_weight (parts (map abs l.xs.now))

abbrev pub decreases-zip_case : goal.decreases-zip_case
decreases-zip_case g l = case_weight (case_of (get_or (spread l.xs.now) l.i None))
