use Rattle.std.proofs.Common.{◌≡◌, ◌++◌, drop}
use Rattle.std.specs.String.{string_bytes}
use Rattle.spec_ir.specs.Views.{specification}
use Rattle.text_elements.specs.Cells.{listed_lines}
use Rattle.text_elements.proofs.cells.push_listed.Given as goal

abbrev pub invariant-loop-place : goal.invariant-loop-place
invariant-loop-place g l =
    string_bytes l.fn.out ++ listed_lines g.B.BaseText.texts (specification l.spec) l.field l.m.width l.m.cells
    ≡ string_bytes l.out ++ listed_lines g.B.BaseText.texts (specification l.spec) l.field l.m.width (drop l.place l.m.cells)
