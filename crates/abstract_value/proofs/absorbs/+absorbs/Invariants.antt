use Rattle.std.proofs.Common.{◌≡◌, map, drop, length, ◌+◌, ◌*◌}
use Rattle.abstract_value_laws.specs.Abs.{cases, parts}
use Rattle.abstract_value_laws.specs.Calls.{absorbs_cases, absorbs_parts}
use Rattle.abstract_value_laws.specs.Fits.{CasesFit, PartsFit}
use Rattle.abstract_value.specs.Constructors.{spread}
use Rattle.abstract_value.specs.View.{abs, case_of, cases_of}
use Rattle.abstract_value.proofs.Weights.{cases_weight, parts_weight, weight}
use Rattle.abstract_value.proofs.absorbs.+absorbs.Given as goal

abbrev pub invariant-absorbs_each-loop-i : goal.invariant-absorbs_each-loop-i
invariant-absorbs_each-loop-i g l =
    let b = g.B.Base.algebra in
    let cap = g.B.Base.CAP in
    let xs = cases (map case_of (drop l.i (spread l.xs))) in
    let ys = cases (map case_of (drop l.i (spread l.ys))) in
    record {
      lengths : length (spread l.xs) ≡ length (spread l.ys);
      whole : absorbs_cases b l.ctx xs ys ≡ absorbs_cases b l.ctx (cases_of l.xs) (cases_of l.ys);
      old : CasesFit b l.ctx cap xs;
      new : CasesFit b l.ctx cap ys;
    }

abbrev pub invariant-absorbs_parts-loop-i : goal.invariant-absorbs_parts-loop-i
invariant-absorbs_parts-loop-i g l =
    let b = g.B.Base.algebra in
    let cap = g.B.Base.CAP in
    let xs = parts (map abs (drop l.i l.xs)) in
    let ys = parts (map abs (drop l.i l.ys)) in
    record {
      lengths : length l.xs ≡ length l.ys;
      whole : absorbs_parts b l.ctx xs ys ≡ absorbs_parts b l.ctx (parts (map abs l.xs)) (parts (map abs l.ys));
      old : PartsFit b l.ctx cap xs;
      new : PartsFit b l.ctx cap ys;
    }

abbrev pub decreases-absorbs : goal.decreases-absorbs
decreases-absorbs g l = 8 * weight (abs l.x.now)

abbrev pub decreases-absorbs_cases : goal.decreases-absorbs_cases
decreases-absorbs_cases g l = 8 * cases_weight (cases_of l.xs.now) + 5

abbrev pub decreases-absorbs_each : goal.decreases-absorbs_each
decreases-absorbs_each g l = 8 * cases_weight (cases_of l.xs.now) + 4

abbrev pub decreases-absorbs_case : goal.decreases-absorbs_case
decreases-absorbs_case g l = 8 * cases_weight (cases_of l.xs.now) + 3

abbrev pub decreases-absorbs_parts : goal.decreases-absorbs_parts
decreases-absorbs_parts g l = 8 * parts_weight (parts (map abs l.xs.now)) + 1
