use Rattle.std.proofs.Common.{◌≡◌, map, drop, ◌+◌, ◌*◌}
use Rattle.std.specs.List.{fold}
use Rattle.abstract_value_laws.specs.Abs.{cases, parts}
use Rattle.abstract_value.specs.Same.{hashed_cases, hashed_parts}
use Rattle.abstract_value.specs.Constructors.{spread}
use Rattle.abstract_value.specs.View.{abs, case_of, cases_of}
use Rattle.abstract_value.proofs.Weights.{cases_weight, parts_weight, weight}
use Rattle.abstract_value.proofs.hashed.+hash.Given as goal

abbrev pub invariant-hash_cases-loop-i : goal.invariant-hash_cases-loop-i
invariant-hash_cases-loop-i g l =
    fold g.H.Hasher.write l.state (hashed_cases g.B.Word.Hash.hash_input g.B.Note.Hash.hash_input (cases (map case_of (drop l.i (spread l.values)))))
    ≡ fold g.H.Hasher.write l.initial.state (hashed_cases g.B.Word.Hash.hash_input g.B.Note.Hash.hash_input (cases_of l.values))

abbrev pub invariant-hash_parts-loop-value : goal.invariant-hash_parts-loop-value
invariant-hash_parts-loop-value g l =
    fold g.H.Hasher.write l.state (hashed_parts g.B.Word.Hash.hash_input g.B.Note.Hash.hash_input (parts (map abs (drop l.value-index l.values))))
    ≡ fold g.H.Hasher.write l.initial.state (hashed_parts g.B.Word.Hash.hash_input g.B.Note.Hash.hash_input (parts (map abs l.values)))

abbrev pub decreases-hash_value : goal.decreases-hash_value
decreases-hash_value g l = 8 * weight (abs l.v.now)

abbrev pub decreases-hash_cases : goal.decreases-hash_cases
decreases-hash_cases g l = 8 * cases_weight (cases_of l.values.now) + 5

abbrev pub decreases-hash_case : goal.decreases-hash_case
decreases-hash_case g l = 8 * cases_weight (cases_of l.values.now) + 3

abbrev pub decreases-hash_parts : goal.decreases-hash_parts
decreases-hash_parts g l = 8 * parts_weight (parts (map abs l.values.now)) + 1
