use Rattle.std.proofs.Common.{◌≡◌, map, ap, subst, sym, ◌∙◌}
use Rattle.std.specs.Prelude.{unwrap_or}
use Rattle.abstract_map_laws.specs.Maps.{cell}
use Rattle.abstract_map.specs.Merged.{merge_cells}
use Rattle.abstract_map.proofs.Whole.{if_ok}
use Rattle.abstract_map.proofs.abstract_maps.AbstractMap.merged_with.Goals as goal

pub returns-in-None : goal.returns-in-None
returns-in-None g c =
    let B = g.B.Base.algebra in
    let ctx = c.args.ctx.now in
    let m = c.args.self.now in
    let n = c.args.other.now in
    let none = ap (λ o. unwrap_or o c.root.result.now) c.in-None.is in
    let root = sym none ∙ c.in_ok-cells.ensures.value in
    let width = c.requires.width in
    record {
      value = if_ok (λ r. r ≡ c.self.inside.cells) (λ r. r ≡ map (λ e. (e.0, merge_cells B ctx m.width c.args.how e.1 (cell n e.0))) m.cells) c.copy.result
          (λ r h. h ∙ ap (λ t. t.cells) c.self.view_is ∙ subst (λ l. l ≡ map (λ e. (e.0, merge_cells B ctx m.width c.args.how e.1 (cell n e.0))) l) c.root.ensures.value (subst (λ w. c.root.result.now ≡ map (λ e. (e.0, merge_cells B ctx w c.args.how e.1 (cell n e.0))) c.root.result.now) (sym width) root))
          c.copy.ensures;
    }
