use denote.Param.Weighed.{most}
use Rattle.std.proofs.Common.{◌≡◌, ◌+◌, ◌*◌, ◌++◌, map, drop}
use Rattle.syntax_parser.specs.declared.tree.Pat.{size-Pat}
use Rattle.syntax_parser.specs.Tree.{patterns}
use Rattle.syntax_parser.specs.View.{pattern}
use Rattle.spec_match_compiler.specs.Views.{pat}
use Rattle.spec_patterns.specs.Patterns.{part_faults, part_variables, parts_of}
use Rattle.spec_patterns.proofs.Lists.{pats_onto}
use Rattle.spec_patterns.proofs.pattern.+pattern.Given as goal

-- nothing stands in what is out; and what is out is in front of what is left
abbrev pub invariant-checked_parts-loop-i : goal.invariant-checked_parts-loop-i
invariant-checked_parts-loop-i l =
    let env = l.environment in
    record {
      faults : part_faults env l.types (patterns (map pattern l.parts)) ≡ part_faults env (drop l.i l.types) (patterns (map pattern (drop l.i l.parts)));
      made : parts_of env l.initial.scope l.types (patterns (map pattern l.parts))
          ≡ pats_onto (map pat l.out.items) (parts_of env l.scope (drop l.i l.types) (patterns (map pattern (drop l.i l.parts))));
      scope : l.initial.scope ++ part_variables env l.types (patterns (map pattern l.parts))
          ≡ l.scope ++ part_variables env (drop l.i l.types) (patterns (map pattern (drop l.i l.parts)));
    }

abbrev pub decreases-checked_pattern : goal.decreases-checked_pattern
decreases-checked_pattern l = 3 * size-Pat l.p.now

abbrev pub decreases-made_pattern : goal.decreases-made_pattern
decreases-made_pattern l = 3 * most size-Pat l.parts.now + 2

abbrev pub decreases-checked_parts : goal.decreases-checked_parts
decreases-checked_parts l = 3 * most size-Pat l.parts.now + 1
