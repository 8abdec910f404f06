use Rattle.std.proofs.Common.{get_or, map, refl, sym, ap, subst, ◌∙◌}
use Rattle.std.proofs.lemmas.List.{drop_all}
use Rattle.word_operations.specs.Width.{IsWidth}
use Rattle.abstract_map_laws.specs.Cells.{CellFits, join_cells, joined}
use Rattle.abstract_map_laws.specs.Maps.{cell}
use Rattle.abstract_map.proofs.ByKey.{fits_at}
use Rattle.abstract_map.proofs.Whole.{joined_next}
use Rattle.abstract_map.proofs.abstract_maps.AbstractMap.joined_from.Goals as goal

pub loop-key-init : goal.loop-key-init
loop-key-init g c = record {
  fits = fits_at g.B.Base.algebra c.args.ctx.now g.B.Base.CAP c.args.self.now.width c.args.self.now c.args.first c.in_ok-all.all refl c.requires.map (c.in_ok-all.ensures.value ∙ c.cell.ensures.value);
  all = ap (λ x. joined g.B.Base.algebra c.args.ctx.now c.args.self.now.width x (map (cell c.args.self.now) c.args.others.now)) (c.in_ok-all.ensures.value ∙ c.cell.ensures.value);
}

pub joined_into-requires-clause-width : goal.joined_into-requires-clause-width
joined_into-requires-clause-width g c =
    let width = ap (λ m. m.width) c.self.view_is in
    subst (λ w. IsWidth w) (sym width) c.requires.map.width

pub joined_into-requires-clause-old : goal.joined_into-requires-clause-old
joined_into-requires-clause-old g c =
    let B = g.B.Base.algebra in
    let ctx = c.args.ctx.now in
    let width = ap (λ m. m.width) c.self.view_is in
    subst (λ w. CellFits B ctx w c.loop-key.all) (sym width) c.loop-key.invariant.fits

pub joined_into-requires-clause-new : goal.joined_into-requires-clause-new
joined_into-requires-clause-new g c =
    let B = g.B.Base.algebra in
    let ctx = c.args.ctx.now in
    let k = get_or c.args.others.now c.loop-key.key-index 0 in
    let width = ap (λ m. m.width) c.self.view_is in
    fits_at B ctx g.B.Base.CAP c.self.inside.width c.args.self.now k c.cell-in-loop-key.result.now width c.requires.map c.cell-in-loop-key.ensures.value

pub loop-key-preserved : goal.loop-key-preserved
loop-key-preserved g c =
    let B = g.B.Base.algebra in
    let ctx = c.args.ctx.now in
    let m = c.args.self.now in
    record {
      fits = subst (λ t. CellFits B ctx t.width c.in_ok-all-2.all) c.self.view_is c.in_ok-all-2.ensures.fits;
      all = joined_next B ctx m.width c.loop-key.all c.in_ok-all-2.all (cell m) c.args.others.now c.loop-key.key-index 0 _ c.loop-key-test.true
          (c.in_ok-all-2.ensures.value ∙ ap (λ t. join_cells B ctx t.width c.loop-key.all c.cell-in-loop-key.result.now) c.self.view_is ∙ ap (λ x. join_cells B ctx m.width c.loop-key.all x) c.cell-in-loop-key.ensures.value)
          c.loop-key.invariant.all;
    }

pub returns : goal.returns
returns g c =
    let m = c.args.self.now in
    record {
      value = sym (ap (λ l. joined g.B.Base.algebra c.args.ctx.now m.width c.loop-key.all (map (cell m) l)) (drop_all c.loop-key.key-index c.args.others.now c.loop-key-test.false)) ∙ c.loop-key.invariant.all;
      fits = c.loop-key.invariant.fits;
    }
