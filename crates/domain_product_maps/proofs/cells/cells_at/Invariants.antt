use Rattle.std.proofs.Common.{◌≡◌, ◌++◌, drop}
use Rattle.abstract_map_laws.specs.Maps.{cell, cells_at}
use Rattle.domain_product_laws.specs.Calls.{zip_cells}
use Rattle.domain_product_maps.proofs.cells.cells_at.Given as goal

abbrev pub invariant-loop-key : goal.invariant-loop-key
invariant-loop-key g l = l.cells.items ++ cells_at (drop l.key-index l.keys) (λ k. zip_cells (cell l.x k) (cell l.y k)) ≡ cells_at l.keys (λ k. zip_cells (cell l.x k) (cell l.y k))
