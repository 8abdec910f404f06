use Rattle.std.proofs.Common.{◌≡◌, ◌++◌, drop}
use Rattle.std.specs.String.{string_bytes}
use Rattle.text_tables.specs.Heads.{code_lines}
use Rattle.text_tables.proofs.head.push_segments.Given as goal

abbrev pub invariant-loop-i : goal.invariant-loop-i
invariant-loop-i l = string_bytes l.fn.out ++ code_lines l.image.segments ≡ string_bytes l.out ++ code_lines (drop l.i l.image.segments)
