use Rattle.std.proofs.Common.{◌≡◌, map, drop, option_map, None}
use Rattle.spec_match_compiler.specs.Patterns.{pats}
use Rattle.spec_match_compiler.specs.Knowledge.{parts}
use Rattle.spec_match_compiler.specs.Limits.{AllInLimits}
use Rattle.spec_match_compiler.specs.Views.{pat, knowledge, found}
use Rattle.spec_match_compiler.specs.Rule.{first_below}
use Rattle.spec_match_compiler.proofs.first_test.+first_test.Given as goal

abbrev pub invariant-first_below-loop-i : goal.invariant-first_below-loop-i
invariant-first_below-loop-i l =
    record {
      whole : first_below (option_map found l.best) l.case l.i (pats (map pat (drop l.i l.patterns))) (parts (map knowledge (drop l.i l.fields)))
          ≡ first_below None l.case 0 (pats (map pat l.patterns)) (parts (map knowledge l.fields));
      limits : AllInLimits (parts (map knowledge (drop l.i l.fields)));
    }
