use Rattle.std.proofs.Common.{◌++◌, ap}
use Rattle.abstract_map_laws.specs.Maps.{cell, cells_at}
use Rattle.domain_product_laws.specs.Calls.{zip_cells}
use Rattle.domain_product_maps.proofs.Growing.{cells_done, cells_more}
use Rattle.domain_product_maps.proofs.cells.cells_at.Goals as goal

pub loop-key-init : goal.loop-key-init
loop-key-init g c = ap (λ l. l ++ cells_at c.args.keys.now (λ k. zip_cells (cell c.args.x.now k) (cell c.args.y.now k))) c.in_ok-cells.ensures.items

pub loop-key-preserved : goal.loop-key-preserved
loop-key-preserved g c =
    cells_more (λ k. zip_cells (cell c.args.x.now k) (cell c.args.y.now k)) c.args.keys.now c.loop-key.key-index 0 c.loop-key.cells.items c.in_ok-cells-2.cells.items
    (cells_at c.args.keys.now (λ k. zip_cells (cell c.args.x.now k) (cell c.args.y.now k))) c.zipped_cell.result c.loop-key-test.true c.in_ok-cells-2.ensures c.zipped_cell.ensures c.loop-key.invariant

pub returns : goal.returns
returns g c =
    cells_done (λ k. zip_cells (cell c.args.x.now k) (cell c.args.y.now k)) c.args.keys.now c.loop-key.key-index c.loop-key.cells.items
    (cells_at c.args.keys.now (λ k. zip_cells (cell c.args.x.now k) (cell c.args.y.now k))) c.loop-key-test.false c.loop-key.invariant
