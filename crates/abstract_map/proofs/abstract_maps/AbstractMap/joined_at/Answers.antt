use Rattle.std.proofs.Common.{map, sym, ap, subst, cond, ◌∙◌}
use Rattle.word_operations.specs.Width.{IsWidth}
use Rattle.base_trait.specs.Lists.{Each, IsAscending}
use Rattle.abstract_map_laws.specs.Maps.{Fits}
use Rattle.abstract_map_laws.specs.Cells.{CellFits, join_cells}
use Rattle.abstract_map_laws.specs.Keys.{has_key, some}
use Rattle.abstract_map_laws.proofs.Fitting.{room, update_fits}
use Rattle.abstract_map.proofs.Whole.{joined_is}
use Rattle.abstract_map.proofs.abstract_maps.AbstractMap.joined_at.Goals as goal

pub joined_if-requires-clause-width : goal.joined_if-requires-clause-width
joined_if-requires-clause-width g c =
    let width = ap (λ m. m.width) c.self.view_is in
    subst (λ w. IsWidth w) (sym width) c.requires.map.width

pub joined_if-requires-clause-old : goal.joined_if-requires-clause-old
joined_if-requires-clause-old g c =
    let B = g.B.Base.algebra in
    let ctx = c.args.ctx.now in
    let w = c.self.inside.width in
    subst (λ x. CellFits B ctx w x) (sym c.in_ok-rest.ensures.value) (subst (λ t. CellFits B ctx t.width t.rest) (sym c.self.view_is) c.requires.map.cells.0)

pub joined_if-requires-clause-new : goal.joined_if-requires-clause-new
joined_if-requires-clause-new g c =
    let B = g.B.Base.algebra in
    let ctx = c.args.ctx.now in
    let width = ap (λ m. m.width) c.self.view_is in
    subst (λ w. CellFits B ctx w c.args.cell.now) (sym width) c.requires.cell

pub joined_named-requires-clause-width : goal.joined_named-requires-clause-width
joined_named-requires-clause-width g c =
    let width = ap (λ m. m.width) c.self.view_is in
    subst (λ w. IsWidth w) (sym width) c.requires.map.width

pub joined_named-requires-clause-old : goal.joined_named-requires-clause-old
joined_named-requires-clause-old g c =
    let B = g.B.Base.algebra in
    let ctx = c.args.ctx.now in
    let w = c.self.inside.width in
    let width = ap (λ m. m.width) c.self.view_is in
    subst (λ l. Each (λ e. CellFits B ctx w e.1) l) (sym c.cells.ensures.value) (subst (λ w. Each (λ e. CellFits B ctx w e.1) c.args.self.now.cells) (sym width) c.requires.map.cells.1)

pub joined_named-requires-clause-new : goal.joined_named-requires-clause-new
joined_named-requires-clause-new g c =
    let B = g.B.Base.algebra in
    let ctx = c.args.ctx.now in
    let width = ap (λ m. m.width) c.self.view_is in
    subst (λ w. CellFits B ctx w c.args.cell.now) (sym width) c.requires.cell

pub joined_named-requires-clause-order : goal.joined_named-requires-clause-order
joined_named-requires-clause-order g c = subst (λ l. IsAscending (map (λ e. e.0) l)) (sym c.cells.ensures.value) c.requires.map.order

pub returns-in-Ok : goal.returns-in-Ok
returns-in-Ok g c =
    let B = g.B.Base.algebra in
    let ctx = c.args.ctx.now in
    let cap = g.B.Base.CAP in
    let m = c.args.self.now in
    let ks = c.args.listed.now in
    let all = c.args.all_listed in
    let x = c.args.cell.now in
    let w = c.self.inside.width in
    let rest = c.in_ok-rest-2.rest in
    let cells = c.in-Ok.cells in
    let same = joined_is B ctx cap _ m ks all x c.in_ok-rest.rest rest cells c.self.view_is c.requires.map.order c.in_ok-rest.ensures.value c.in_ok-rest-2.ensures.value
    (c.in-Ok.ensures.value ∙ ap (λ l. map (λ e. (e.0, cond (has_key ks e.0) (join_cells B ctx w e.1 x) e.1)) l) (c.cells.ensures.value ∙ sym (ap (λ t. t.cells) c.self.view_is))) in
    record {
      value = same;
      fits = subst (λ t. Fits B ctx cap t) (sym same) (update_fits B g.met.B.Base.laws ctx cap m (some ks all) x (room B cap g.met.B.Base.capacity) tt c.requires.map c.requires.cell);
    }
