use Rattle.std.proofs.Common.{◌≡◌, ap, ◌∙◌}
use Rattle.abstract_map_laws.specs.Cells.{join_cells}
use Rattle.abstract_map_laws.specs.Keys.{either_key}
use Rattle.abstract_map_laws.specs.Maps.{cell, cells_at, keys}
use Rattle.abstract_map.specs.Merged.{with_new}
use Rattle.abstract_map.proofs.Walked.{both_merged}
use Rattle.abstract_map.proofs.Whole.{if_ok}
use Rattle.abstract_map.proofs.abstract_maps.AbstractMap.merged_cells.Goals as goal

pub returns : goal.returns
returns g c =
    let B = g.B.Base.algebra in
    let ctx = c.args.ctx.now in
    let m = c.args.self.now in
    let n = c.args.other.now in
    record {
      value = if_ok (λ r. r ≡ with_new m.cells (λ x. join_cells B ctx m.width m.rest x) c.root.result.now c.in_ok-cells.cells) (λ r. r ≡ cells_at (either_key (keys m) (keys n)) (λ k. join_cells B ctx m.width (cell m k) (cell n k))) c.with_new.result
          (λ r h. both_merged B ctx m n c.requires.left.order c.requires.right.order c.in_ok-cells.cells r c.in_ok-cells.ensures.value (h ∙ ap (λ l. with_new m.cells (λ x. join_cells B ctx m.width m.rest x) l c.in_ok-cells.cells) c.root.ensures.value))
          c.with_new.ensures.value;
    }
