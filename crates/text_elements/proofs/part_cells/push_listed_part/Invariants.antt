use Rattle.std.proofs.Common.{◌≡◌, ◌++◌, drop}
use Rattle.std.specs.String.{string_bytes}
use Rattle.spec_ir.specs.Views.{specification}
use Rattle.domain_product_laws.specs.Calls.{mapped_cells}
use Rattle.text_elements.specs.Cells.{listed_lines}
use Rattle.text_elements.proofs.part_cells.push_listed_part.Given as goal

abbrev pub invariant-loop-place : goal.invariant-loop-place
invariant-loop-place g l =
    string_bytes l.fn.out ++ listed_lines g.P.To.BaseText.texts (specification l.spec) l.field l.m.width (mapped_cells g.P.ProductPart.word_of g.P.ProductPart.note_of l.m.cells)
    ≡ string_bytes l.out ++ listed_lines g.P.To.BaseText.texts (specification l.spec) l.field l.m.width (drop l.place (mapped_cells g.P.ProductPart.word_of g.P.ProductPart.note_of l.m.cells))
