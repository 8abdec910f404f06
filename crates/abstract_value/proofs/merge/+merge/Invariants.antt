use Rattle.std.proofs.Common.{◌≡◌, map, drop, ◌+◌, ◌*◌}
use Rattle.abstract_value_laws.specs.Abs.{cases, parts, cases_onto, parts_onto}
use Rattle.abstract_value_laws.specs.Fits.{CasesFit, PartsFit}
use Rattle.abstract_value.specs.Constructors.{AreWithin, spread}
use Rattle.abstract_value.specs.View.{abs, case_of, cases_of}
use Rattle.abstract_value.specs.Ways.{merged_cases, merged_parts}
use Rattle.abstract_value.proofs.Weights.{cases_weight, parts_weight, weight}
use Rattle.abstract_value.proofs.merge.+merge.Given as goal

abbrev pub invariant-merge_each-loop-i : goal.invariant-merge_each-loop-i
invariant-merge_each-loop-i g l =
    let b = g.B.Base.algebra in
    let cap = g.B.Base.CAP in
    let xs = cases (map case_of (drop l.i (spread l.xs))) in
    let ys = cases (map case_of (drop l.i (spread l.ys))) in
    record {
      whole : cases_onto (map case_of (spread l.out)) (merged_cases b l.ctx cap l.way xs ys) ≡ merged_cases b l.ctx cap l.way (cases_of l.xs) (cases_of l.ys);
      within : AreWithin l.out;
      left : CasesFit b l.ctx cap xs;
      right : CasesFit b l.ctx cap ys;
    }

abbrev pub invariant-merge_parts-loop-i : goal.invariant-merge_parts-loop-i
invariant-merge_parts-loop-i g l =
    let b = g.B.Base.algebra in
    let cap = g.B.Base.CAP in
    let xs = parts (map abs (drop l.i l.xs)) in
    let ys = parts (map abs (drop l.i l.ys)) in
    record {
      whole : parts_onto (map abs l.out.items) (merged_parts b l.ctx cap l.way xs ys) ≡ merged_parts b l.ctx cap l.way (parts (map abs l.xs)) (parts (map abs l.ys));
      left : PartsFit b l.ctx cap xs;
      right : PartsFit b l.ctx cap ys;
    }

abbrev pub decreases-merge : goal.decreases-merge
decreases-merge g l = 8 * weight (abs l.x.now)

abbrev pub decreases-merge_cases : goal.decreases-merge_cases
decreases-merge_cases g l = 8 * cases_weight (cases_of l.xs.now) + 5

abbrev pub decreases-merge_each : goal.decreases-merge_each
decreases-merge_each g l = 8 * cases_weight (cases_of l.xs.now) + 4

abbrev pub decreases-merge_case : goal.decreases-merge_case
decreases-merge_case g l = 8 * cases_weight (cases_of l.xs.now) + 3

abbrev pub decreases-merge_parts : goal.decreases-merge_parts
decreases-merge_parts g l = 8 * parts_weight (parts (map abs l.xs.now)) + 1
