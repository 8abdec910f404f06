use Rattle.std.proofs.Common.{◌≡◌, ◌++◌, drop}
use Rattle.domain_product_laws.specs.Calls.{mapped_cells}
use Rattle.domain_product_maps.proofs.mapped_maps.mapped_cells.Given as goal

abbrev pub invariant-loop-place : goal.invariant-loop-place
invariant-loop-place g l = l.cells.items ++ drop l.place (mapped_cells g.P.ProductPart.word_of g.P.ProductPart.note_of l.m.cells) ≡ mapped_cells g.P.ProductPart.word_of g.P.ProductPart.note_of l.m.cells
