use Rattle.std.proofs.Common.{◌≡◌, ◌++◌, map, drop}
use Rattle.spec_match_compiler.specs.Patterns.{pats}
use Rattle.spec_match_compiler.specs.Limits.{PatsInLimits}
use Rattle.spec_match_compiler.specs.Meets.{part_bindings}
use Rattle.spec_match_compiler.specs.Views.{pat, bound}
use Rattle.spec_match_compiler.proofs.bindings.+bindings.Given as goal

abbrev pub invariant-part_bindings-loop-i : goal.invariant-part_bindings-loop-i
invariant-part_bindings-loop-i l =
    record {
      whole : map bound l.out.items ++ part_bindings l.at l.case l.i (pats (map pat (drop l.i l.parts)))
          ≡ map bound l.initial.out.items ++ part_bindings l.at l.case 0 (pats (map pat l.parts));
      limits : PatsInLimits (pats (map pat (drop l.i l.parts)));
    }
