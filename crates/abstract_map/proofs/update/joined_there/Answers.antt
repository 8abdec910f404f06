use Rattle.std.proofs.Common.{◌≡◌, ap, ◌∙◌}
use Rattle.std.specs.Prelude.{option_map}
use Rattle.abstract_map_laws.specs.Cells.{CellFits, join_cells}
use Rattle.abstract_cell_tree.specs.Entries.{listed_at, put}
use Rattle.abstract_map.specs.Placed.{placed}
use Rattle.abstract_map.proofs.Named.{listed_each}
use Rattle.abstract_map.proofs.Whole.{if_ok}
use Rattle.abstract_map.proofs.update.joined_there.Goals as goal

pub join_cell-requires-clause-left : goal.join_cell-requires-clause-left
join_cell-requires-clause-left g c = listed_each (λ y. CellFits g.B.Base.algebra c.args.ctx.now c.args.w y) c.args.key c.args.cells.now c.in-Some.old.now c.requires.old c.in-Some.ensures

pub returns : goal.returns
returns g c =
    let k = c.args.key in
    let out = c.args.out in
    let B = g.B.Base.algebra in
    record {
      value = if_ok (λ r. r ≡ put k c.in_ok-new.new out) (λ r. r ≡ placed k (option_map (λ y. join_cells B c.args.ctx.now c.args.w y c.args.cell.now) (listed_at k c.args.cells.now)) out) c.put.result
          (λ r e. e ∙ ap (λ y. put k y out) c.in_ok-new.ensures.value ∙ ap (λ o. placed k (option_map (λ y. join_cells B c.args.ctx.now c.args.w y c.args.cell.now) o) out) c.in-Some.ensures) c.put.ensures;
    }
