use Rattle.std.proofs.Common.{◌≡◌, ◌++◌, map, drop}
use Rattle.spec_match_compiler.specs.Views.{pat, candidate}
use Rattle.spec_match_compiler.specs.Picks.{numbered}
use Rattle.spec_match_compiler.proofs.candidate.candidates.Given as goal

abbrev pub invariant-loop-i : goal.invariant-loop-i
invariant-loop-i l = map candidate l.out.items ++ numbered l.i (map pat (drop l.i l.rows)) ≡ numbered 0 (map pat l.rows)
