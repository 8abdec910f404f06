use Rattle.std.proofs.Common.{◌≡◌, ◌++◌, ℕ, arith, ap, map, ◌∙◌}
use Rattle.std.specs.Prelude.{unwrap_or}
use Rattle.abstract_cell_tree.specs.Walks.{sides_entries}
use Rattle.abstract_map_laws.specs.Cells.{CellFits}
use Rattle.abstract_map_laws.specs.Maps.{cell}
use Rattle.abstract_map.specs.Merged.{merge_cells}
use Rattle.abstract_map.proofs.ByKey.{fits_at}
use Rattle.abstract_map.proofs.Walked.{around_left, around_right, changed_keys, less_left, less_right, map_parts, part_left, part_right}
use Rattle.abstract_map.proofs.Whole.{if_ok}
use Rattle.abstract_map.proofs.abstract_maps.AbstractMap.+merged_into.Goals as goal

pub merged_cell-requires-clause-new : goal.merged_cell-requires-clause-new
merged_cell-requires-clause-new g t c =
    let width = ap (λ m. m.width) c.self.view_is in
    fits_at g.B.Base.algebra c.args.ctx.now g.B.Base.CAP c.self.inside.width c.args.self.now c.in-One.key c.cell_near-here.result.now width c.requires.map c.cell_near-here.ensures.value

pub merged_into-requires : goal.merged_into-requires
merged_into-requires g t c κs within =
    let d = c.args.cells.now in
    let s = c.in-Two.sides in
    let e = c.in-Two.ensures.is in
    let shorter = less_left d s.left.now s.right.now e c.in-Two.ensures.some_right in
    let own = around_left d s.left.now s.right.now e c.args.own.now c.args.self.now.cells c.around.result.now c.around.ensures c.requires.own in
    let cells = part_left d s.left.now s.right.now e (λ e. CellFits g.B.Base.algebra c.args.ctx.now c.args.self.now.width e.1) c.requires.cells in
    (omega (arith, shorter, c.decreases), (within.0, (within.1.0, (within.1.1.0, (within.1.1.1, (c.requires.map, (cells, own)))))))

pub merged_into-requires-in-Two : goal.merged_into-requires-in-Two
merged_into-requires-in-Two g t c κs within =
    let d = c.args.cells.now in
    let s = c.in-Two.sides in
    let e = c.in-Two.ensures.is in
    let shorter = less_right d s.left.now s.right.now e c.in-Two.ensures.some_left in
    let own = around_right d s.left.now s.right.now e c.args.own.now c.args.self.now.cells c.around-in-Two.result.now c.around-in-Two.ensures c.requires.own in
    let cells = part_right d s.left.now s.right.now e (λ e. CellFits g.B.Base.algebra c.args.ctx.now c.args.self.now.width e.1) c.requires.cells in
    (omega (arith, shorter, c.decreases), (within.0, (within.1.0, (within.1.1.0, (within.1.1.1, (c.requires.map, (cells, own)))))))

pub of_sides-requires-clause-left : goal.of_sides-requires-clause-left
of_sides-requires-clause-left g t c =
    let m = c.args.self.now in
    let s = c.in-Two.sides in
    changed_keys (λ e. merge_cells g.B.Base.algebra c.args.ctx.now m.width c.args.how e.1 (cell m e.0)) (unwrap_or c.in_ok-left-in-Two.left s.left.now) s.left.now c.in_ok-left-in-Two.ensures.value

pub of_sides-requires-clause-right : goal.of_sides-requires-clause-right
of_sides-requires-clause-right g t c =
    let m = c.args.self.now in
    let s = c.in-Two.sides in
    changed_keys (λ e. merge_cells g.B.Base.algebra c.args.ctx.now m.width c.args.how e.1 (cell m e.0)) (unwrap_or c.in_ok-right-in-Two.right s.right.now) s.right.now c.in_ok-right-in-Two.ensures.value

pub returns-in_ok-right-in-Two : goal.returns-in_ok-right-in-Two
returns-in_ok-right-in-Two g t c =
    let B = g.B.Base.algebra in
    let ctx = c.args.ctx.now in
    let m = c.args.self.now in
    let d = c.args.cells.now in
    let s = c.in-Two.sides in
    let left = unwrap_or c.in_ok-left-in-Two.left s.left.now in
    let right = unwrap_or c.in_ok-right-in-Two.right s.right.now in
    record {
      value = if_ok (λ r. unwrap_or r (sides_entries s) ≡ left ++ right) (λ r. unwrap_or r d ≡ map (λ e. (e.0, merge_cells B ctx m.width c.args.how e.1 (cell m e.0))) d) c.of_sides.result
          (λ r h. ap (λ l. unwrap_or r l) c.in-Two.ensures.is ∙ h ∙ map_parts d s.left.now s.right.now c.in-Two.ensures.is (λ e. (e.0, merge_cells B ctx m.width c.args.how e.1 (cell m e.0))) left right c.in_ok-left-in-Two.ensures.value c.in_ok-right-in-Two.ensures.value)
          c.of_sides.ensures;
    }
