use Rattle.std.proofs.Common.{◌≡◌, ◌++◌, drop}
use Rattle.std.specs.String.{string_bytes}
use Rattle.spec_ir.specs.Views.{specification}
use Rattle.state_text.specs.Writing.{listed_lines}
use Rattle.state_text.proofs.writer.push_listed.Given as goal

abbrev pub invariant-loop-cell : goal.invariant-loop-cell
invariant-loop-cell l = string_bytes l.fn.out ++ listed_lines (specification l.spec) l.field l.width l.rest l.cells ≡ string_bytes l.out ++ listed_lines (specification l.spec) l.field l.width l.rest (drop l.cell-index l.cells)
