use Rattle.std.proofs.Common.{◌≡◌, ◌++◌, drop, map}
use Rattle.std.specs.String.{string_bytes}
use Rattle.spec_ir.specs.Views.{specification}
use Rattle.semantics_values.specs.Views.{val}
use Rattle.state_text.specs.Writing.{field_lines}
use Rattle.state_text.proofs.writer.push_fields.Given as goal

abbrev pub invariant-loop-i : goal.invariant-loop-i
invariant-loop-i l = string_bytes l.fn.out ++ field_lines (specification l.spec) l.fields (map val l.parts) ≡ string_bytes l.out ++ field_lines (specification l.spec) (drop l.i l.fields) (map val (drop l.i l.parts))
