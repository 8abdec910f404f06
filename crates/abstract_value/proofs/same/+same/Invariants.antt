use Rattle.std.proofs.Common.{◌≡◌, map, drop, length, ◌+◌, ◌*◌}
use Rattle.abstract_value_laws.specs.Abs.{cases, parts}
use Rattle.abstract_value.specs.Same.{same_cases, same_parts}
use Rattle.abstract_value.specs.Constructors.{spread}
use Rattle.abstract_value.specs.View.{abs, case_of, cases_of}
use Rattle.abstract_value.proofs.Weights.{cases_weight, parts_weight, weight}
use Rattle.abstract_value.proofs.same.+same.Given as goal

abbrev pub invariant-same_each-loop-i : goal.invariant-same_each-loop-i
invariant-same_each-loop-i g l =
    let words = g.B.Word.PartialEq.eq in
    let notes = g.B.Note.PartialEq.eq in
    record {
      lengths : length (spread l.xs) ≡ length (spread l.ys);
      whole : same_cases words notes (cases (map case_of (drop l.i (spread l.xs)))) (cases (map case_of (drop l.i (spread l.ys)))) ≡ same_cases words notes (cases_of l.xs) (cases_of l.ys);
    }

abbrev pub invariant-same_parts-loop-i : goal.invariant-same_parts-loop-i
invariant-same_parts-loop-i g l =
    let words = g.B.Word.PartialEq.eq in
    let notes = g.B.Note.PartialEq.eq in
    record {
      lengths : length l.xs ≡ length l.ys;
      whole : same_parts words notes (parts (map abs (drop l.i l.xs))) (parts (map abs (drop l.i l.ys))) ≡ same_parts words notes (parts (map abs l.xs)) (parts (map abs l.ys));
    }

abbrev pub decreases-same_value : goal.decreases-same_value
decreases-same_value g l = 8 * weight (abs l.x.now)

abbrev pub decreases-same_cases : goal.decreases-same_cases
decreases-same_cases g l = 8 * cases_weight (cases_of l.xs.now) + 5

abbrev pub decreases-same_each : goal.decreases-same_each
decreases-same_each g l = 8 * cases_weight (cases_of l.xs.now) + 4

abbrev pub decreases-same_case : goal.decreases-same_case
decreases-same_case g l = 8 * cases_weight (cases_of l.xs.now) + 3

abbrev pub decreases-same_parts : goal.decreases-same_parts
decreases-same_parts g l = 8 * parts_weight (parts (map abs l.xs.now)) + 1
