use Rattle.std.proofs.Common.{◌≡◌, ◌++◌, map, drop}
use Rattle.spec_match_compiler.specs.Views.{knowledge}
use Rattle.spec_match_compiler.specs.Rule.{made_known}
use Rattle.spec_match_compiler.proofs.outcomes.made_known.Given as goal

abbrev pub invariant-loop-i : goal.invariant-loop-i
invariant-loop-i l =
    map knowledge l.out.items ++ made_known l.i (map (λ c. c.items) (drop l.i l.cases)) ≡ made_known 0 (map (λ c. c.items) l.cases)
