use Rattle.std.proofs.Common.{◌≡◌, arith, ◌∙◌}
use Rattle.abstract_map_laws.specs.Cells.{CellFits, join_cells}
use Rattle.abstract_map.specs.Merged.{with_new}
use Rattle.abstract_map.proofs.Walked.{around_left, around_right, less_left, less_right, new_parts, part_left, part_right}
use Rattle.abstract_map.proofs.Whole.{if_ok}
use Rattle.abstract_map.proofs.abstract_maps.AbstractMap.+with_new.Goals as goal

pub with_new-requires : goal.with_new-requires
with_new-requires g t c κs within =
    let d = c.args.cells.now in
    let s = c.in-Two.sides in
    let e = c.in-Two.ensures.is in
    let shorter = less_left d s.left.now s.right.now e c.in-Two.ensures.some_right in
    let own = around_left d s.left.now s.right.now e c.args.own.now c.args.self.now.cells c.around.result.now c.around.ensures c.requires.own in
    let cells = part_left d s.left.now s.right.now e (λ e. CellFits g.B.Base.algebra c.args.ctx.now c.args.self.now.width e.1) c.requires.cells in
    (omega (arith, shorter, c.decreases), (within.0, (within.1.0, (within.1.1.0, (within.1.1.1, (c.requires.map, (cells, own)))))))

pub with_new-requires-in-Two : goal.with_new-requires-in-Two
with_new-requires-in-Two g t c κs within =
    let d = c.args.cells.now in
    let s = c.in-Two.sides in
    let e = c.in-Two.ensures.is in
    let shorter = less_right d s.left.now s.right.now e c.in-Two.ensures.some_left in
    let own = around_right d s.left.now s.right.now e c.args.own.now c.args.self.now.cells c.around-in-Two.result.now c.around-in-Two.ensures c.requires.own in
    let cells = part_right d s.left.now s.right.now e (λ e. CellFits g.B.Base.algebra c.args.ctx.now c.args.self.now.width e.1) c.requires.cells in
    (omega (arith, shorter, c.decreases), (within.0, (within.1.0, (within.1.1.0, (within.1.1.1, (c.requires.map, (cells, own)))))))

pub returns-in_ok-out-in-Two : goal.returns-in_ok-out-in-Two
returns-in_ok-out-in-Two g t c =
    let m = c.args.self.now in
    let s = c.in-Two.sides in
    record {
      value = if_ok (λ r. r ≡ with_new m.cells (λ x. join_cells g.B.Base.algebra c.args.ctx.now m.width m.rest x) s.right.now c.in_ok-out-in-Two.out) (λ r. r ≡ with_new m.cells (λ x. join_cells g.B.Base.algebra c.args.ctx.now m.width m.rest x) c.args.cells.now c.args.out) c.with_new-in-Two.result
          (λ r h. h ∙ new_parts c.args.cells.now s.left.now s.right.now c.in-Two.ensures.is m.cells (λ x. join_cells g.B.Base.algebra c.args.ctx.now m.width m.rest x) c.args.out c.in_ok-out-in-Two.out c.in_ok-out-in-Two.ensures.value)
          c.with_new-in-Two.ensures.value;
    }
