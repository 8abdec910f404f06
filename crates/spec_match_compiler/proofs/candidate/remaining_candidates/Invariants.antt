use Rattle.std.proofs.Common.{◌≡◌, ◌++◌, map, drop}
use Rattle.spec_match_compiler.specs.Views.{candidate, knowledge}
use Rattle.spec_match_compiler.specs.Rule.{still}
use Rattle.spec_match_compiler.proofs.candidate.remaining_candidates.Given as goal

abbrev pub invariant-loop-row : goal.invariant-loop-row
invariant-loop-row l =
    map candidate l.out.items ++ still (map candidate (drop l.row-index l.left)) (knowledge l.known)
    ≡ still (map candidate l.left) (knowledge l.known)
