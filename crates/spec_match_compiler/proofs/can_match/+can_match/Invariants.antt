use Rattle.std.proofs.Common.{◌≡◌, map, drop}
use Rattle.spec_match_compiler.specs.Patterns.{pats}
use Rattle.spec_match_compiler.specs.Knowledge.{parts}
use Rattle.spec_match_compiler.specs.Views.{pat, knowledge}
use Rattle.spec_match_compiler.specs.Rule.{all_can_match}
use Rattle.spec_match_compiler.proofs.can_match.+can_match.Given as goal

abbrev pub invariant-all_can_match-loop-i : goal.invariant-all_can_match-loop-i
invariant-all_can_match-loop-i l =
    all_can_match (pats (map pat (drop l.i l.patterns))) (parts (map knowledge (drop l.i l.fields)))
    ≡ all_can_match (pats (map pat l.patterns)) (parts (map knowledge l.fields))
