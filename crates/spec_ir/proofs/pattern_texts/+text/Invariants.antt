use denote.Param.Weighed.{most}
use Rattle.std.proofs.Common.{◌≡◌, ◌+◌, ◌*◌, ◌++◌, map, drop}
use Rattle.std.specs.String.{string_bytes}
use Rattle.spec_match_compiler.specs.declared.pattern.Pattern.{size-Pattern}
use Rattle.spec_match_compiler.specs.Patterns.{pats}
use Rattle.spec_match_compiler.specs.Views.{pat}
use Rattle.spec_ir.specs.Texts.{arguments_text, more_text}
use Rattle.spec_ir.specs.Views.{environment}
use Rattle.spec_ir.proofs.pattern_texts.+text.Given as goal

-- what was written when the parts began, and the parts, are what is written and what is left
abbrev pub invariant-write_parts-loop-i : goal.invariant-write_parts-loop-i
invariant-write_parts-loop-i l =
    let env = environment l.declarations in
    string_bytes l.fn.out ++ arguments_text env l.types (pats (map pat l.parts))
    ≡ string_bytes l.out ++ more_text env (drop l.i l.types) (pats (map pat (drop l.i l.parts)))

abbrev pub decreases-write_pattern : goal.decreases-write_pattern
decreases-write_pattern l = 3 * size-Pattern l.p.now

abbrev pub decreases-write_case : goal.decreases-write_case
decreases-write_case l = 3 * most size-Pattern l.parts.now + 2

abbrev pub decreases-write_parts : goal.decreases-write_parts
decreases-write_parts l = 3 * most size-Pattern l.parts.now + 1
