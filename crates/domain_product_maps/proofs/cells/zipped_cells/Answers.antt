use Rattle.std.proofs.Common.{◌≡◌, ap, ◌∙◌}
use Rattle.abstract_map_laws.specs.Keys.{either_key}
use Rattle.abstract_map_laws.specs.Maps.{cell, cells_at, keys}
use Rattle.abstract_map.proofs.Whole.{if_ok}
use Rattle.domain_product_laws.specs.Calls.{zip_cells}
use Rattle.domain_product_maps.proofs.cells.zipped_cells.Goals as goal

pub returns : goal.returns
returns g c =
    let x = c.args.x.now in
    let y = c.args.y.now in
    if_ok (λ r. r.items ≡ cells_at c.deref.result.now (λ k. zip_cells (cell x k) (cell y k))) (λ r. r.items ≡ cells_at (either_key (keys x) (keys y)) (λ k. zip_cells (cell x k) (cell y k))) c.cells_at-cells.result
    (λ r h. h ∙ ap (λ l. cells_at l (λ k. zip_cells (cell x k) (cell y k))) (c.deref.ensures.value ∙ c.in_ok-keys.ensures)) c.cells_at-cells.ensures
