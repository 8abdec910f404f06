use Rattle.std.proofs.Common.{arith, ap, ◌∙◌}
use Rattle.abstract_map.proofs.ByKey.{fits_at}
use Rattle.abstract_map.proofs.Walked.{around_left, around_right, less_left, less_right}
use Rattle.abstract_map.proofs.abstract_maps.AbstractMap.+absorbs_at.Goals as goal

pub absorbs-requires-clause-left : goal.absorbs-requires-clause-left
absorbs-requires-clause-left g t c =
    let width = ap (λ m. m.width) c.self.view_is in
    fits_at g.B.Base.algebra c.args.ctx.now g.B.Base.CAP c.self.inside.width c.args.self.now c.in-One.key c.cell_near-old.result.now width c.requires.old c.cell_near-old.ensures.value

pub absorbs-requires-clause-right : goal.absorbs-requires-clause-right
absorbs-requires-clause-right g t c =
    let width = ap (λ m. m.width) c.self.view_is in
    fits_at g.B.Base.algebra c.args.ctx.now g.B.Base.CAP c.self.inside.width c.args.new.now c.in-One.key c.cell_near.result.now (width ∙ c.requires.width) c.requires.new c.cell_near.ensures.value

pub absorbs_at-requires : goal.absorbs_at-requires
absorbs_at-requires g t c κs within =
    let d = c.args.cells.now in
    let s = c.in-Two.sides in
    let e = c.in-Two.ensures.is in
    let shorter = less_left d s.left.now s.right.now e c.in-Two.ensures.some_right in
    let old = around_left d s.left.now s.right.now e c.args.old_cells.now c.args.self.now.cells c.around.result.now c.around.ensures c.requires.old_cells in
    let new = around_left d s.left.now s.right.now e c.args.new_cells.now c.args.new.now.cells c.around-in-Two.result.now c.around-in-Two.ensures c.requires.new_cells in
    (omega (arith, shorter, c.decreases), (within.0, (within.1.0, (within.1.1.0, (within.1.1.1, (c.requires.old, (c.requires.new, (c.requires.width, (old, new)))))))))

pub absorbs_at-requires-then-absorbs_at : goal.absorbs_at-requires-then-absorbs_at
absorbs_at-requires-then-absorbs_at g t c κs within =
    let d = c.args.cells.now in
    let s = c.in-Two.sides in
    let e = c.in-Two.ensures.is in
    let shorter = less_right d s.left.now s.right.now e c.in-Two.ensures.some_left in
    let old = around_right d s.left.now s.right.now e c.args.old_cells.now c.args.self.now.cells c.around-then-absorbs_at.result.now c.around-then-absorbs_at.ensures c.requires.old_cells in
    let new = around_right d s.left.now s.right.now e c.args.new_cells.now c.args.new.now.cells c.around-then-absorbs_at-2.result.now c.around-then-absorbs_at-2.ensures c.requires.new_cells in
    (omega (arith, shorter, c.decreases), (within.0, (within.1.0, (within.1.1.0, (within.1.1.1, (c.requires.old, (c.requires.new, (c.requires.width, (old, new)))))))))
