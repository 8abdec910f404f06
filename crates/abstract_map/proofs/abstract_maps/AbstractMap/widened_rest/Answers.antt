use Rattle.std.proofs.Common.{◌≡◌, ap, ◌∙◌}
use Rattle.abstract_map_laws.specs.Calls.{news}
use Rattle.abstract_map_laws.specs.Cells.{joined, widen_cells}
use Rattle.abstract_map.proofs.Whole.{if_ok}
use Rattle.abstract_map.proofs.abstract_maps.AbstractMap.widened_rest.Goals as goal

pub returns : goal.returns
returns g c =
    let B = g.B.Base.algebra in
    let ctx = c.args.ctx.now in
    let m = c.args.self.now in
    let n = c.args.new.now in
    record {
      value = if_ok (λ r. r ≡ widen_cells B ctx c.self.inside.width c.self.inside.rest c.in_ok-others.others) (λ r. r ≡ widen_cells B ctx m.width m.rest (joined B ctx m.width n.rest (news m n))) c.widen_cell.result
          (λ x e. e ∙ ap (λ t. widen_cells B ctx t.width t.rest c.in_ok-others.others) c.self.view_is ∙ ap (λ t. widen_cells B ctx m.width m.rest t) c.in_ok-others.ensures.value)
          c.widen_cell.ensures.value;
    }
