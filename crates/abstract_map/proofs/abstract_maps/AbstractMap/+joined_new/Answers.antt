use Rattle.std.proofs.Common.{◌≡◌, ℕ, arith, ap, cond, map, sym, ◌∙◌}
use Rattle.std.specs.Prelude.{is_some, not}
use Rattle.std.specs.List.{filter}
use Rattle.abstract_map_laws.specs.Cells.{CellFits, join_cells, joined}
use Rattle.abstract_map_laws.specs.Keys.{has_key}
use Rattle.abstract_map_laws.specs.Maps.{keys}
use Rattle.abstract_map.proofs.ByKey.{listed_has, some_of_map}
use Rattle.abstract_map.proofs.Walked.{alike_one, around_left, around_right, joined_one, joined_parts, less_left, less_right, part_left, part_right}
use Rattle.abstract_map.proofs.Whole.{if_ok}
use Rattle.abstract_map.proofs.abstract_maps.AbstractMap.+joined_new.Goals as goal

pub joined_new-requires : goal.joined_new-requires
joined_new-requires g t c κs within =
    let d = c.args.cells.now in
    let s = c.in-Two.sides in
    let e = c.in-Two.ensures.is in
    let shorter = less_left d s.left.now s.right.now e c.in-Two.ensures.some_right in
    let own = around_left d s.left.now s.right.now e c.args.own.now c.args.self.now.cells c.around.result.now c.around.ensures c.requires.own in
    let cells = part_left d s.left.now s.right.now e (λ e. CellFits g.B.Base.algebra c.args.ctx.now c.args.self.now.width e.1) c.requires.cells in
    (omega (arith, shorter, c.decreases), (within.0, (within.1.0, (within.1.1.0, (within.1.1.1, (c.requires.map, (c.requires.rest, (cells, own))))))))

pub joined_new-requires-in-Two : goal.joined_new-requires-in-Two
joined_new-requires-in-Two g t c κs within =
    let d = c.args.cells.now in
    let s = c.in-Two.sides in
    let e = c.in-Two.ensures.is in
    let shorter = less_right d s.left.now s.right.now e c.in-Two.ensures.some_left in
    let own = around_right d s.left.now s.right.now e c.args.own.now c.args.self.now.cells c.around-in-Two.result.now c.around-in-Two.ensures c.requires.own in
    let cells = part_right d s.left.now s.right.now e (λ e. CellFits g.B.Base.algebra c.args.ctx.now c.args.self.now.width e.1) c.requires.cells in
    (omega (arith, shorter, c.decreases), (within.0, (within.1.0, (within.1.1.0, (within.1.1.1, (c.requires.map, (c.in_ok-rest-in-Two.ensures.fits, (cells, own))))))))

pub returns-in-One-clause-value : goal.returns-in-One-clause-value
returns-in-One-clause-value g t c =
    let B = g.B.Base.algebra in
    let ctx = c.args.ctx.now in
    let m = c.args.self.now in
    let k = c.in-One.key in
    let x = c.args.rest in
    let y = c.in-One.cell.now in
    let near = alike_one c.args.cells.now c.args.own.now m.cells k y c.in-One.ensures c.requires.own in
    let told = c.is_some-is_new.ensures ∙ some_of_map (λ x. x.now) c.get.result ∙ ap is_some c.get.ensures ∙ ap is_some near ∙ listed_has k m.cells in
    if_ok (λ r. r ≡ cond (not c.is_some-is_new.result) (join_cells B ctx c.self.inside.width x y) x) (λ r. r ≡ joined B ctx m.width x (map (λ e. e.1) (filter (λ e. not (has_key (keys m) e.0)) c.args.cells.now))) c.joined_if.result
    (λ r h. joined_one B ctx m.width (λ (k : ℕ). not (has_key (keys m) k)) k x y r (h ∙ ap (λ n. cond (not c.is_some-is_new.result) (join_cells B ctx n.width x y) x) c.self.view_is ∙ ap (λ b. cond (not b) (join_cells B ctx m.width x y) x) told)
    ∙ ap (λ l. joined B ctx m.width x (map (λ e. e.1) (filter (λ e. not (has_key (keys m) e.0)) l))) (sym c.in-One.ensures))
    c.joined_if.ensures.value

pub returns-in_ok-rest-in-Two-clause-value : goal.returns-in_ok-rest-in-Two-clause-value
returns-in_ok-rest-in-Two-clause-value g t c =
    let B = g.B.Base.algebra in
    let ctx = c.args.ctx.now in
    let m = c.args.self.now in
    let s = c.in-Two.sides in
    if_ok (λ r. r ≡ joined B ctx m.width c.in_ok-rest-in-Two.rest (map (λ e. e.1) (filter (λ e. not (has_key (keys m) e.0)) s.right.now))) (λ r. r ≡ joined B ctx m.width c.args.rest (map (λ e. e.1) (filter (λ e. not (has_key (keys m) e.0)) c.args.cells.now))) c.joined_new-in-Two.result
    (λ r h. h ∙ joined_parts B ctx m.width (λ (k : ℕ). not (has_key (keys m) k)) c.args.cells.now s.left.now s.right.now c.args.rest c.in_ok-rest-in-Two.rest c.in-Two.ensures.is c.in_ok-rest-in-Two.ensures.value)
    c.joined_new-in-Two.ensures.value
