use Rattle.std.proofs.Common.{◌≡◌, ap, map, ◌∙◌}
use Rattle.std.specs.Prelude.{not}
use Rattle.std.specs.List.{filter}
use Rattle.abstract_map_laws.specs.Calls.{news}
use Rattle.abstract_map_laws.specs.Cells.{joined}
use Rattle.abstract_map_laws.specs.Keys.{has_key}
use Rattle.abstract_map_laws.specs.Maps.{keys}
use Rattle.abstract_map.proofs.ByKey.{news_stand}
use Rattle.abstract_map.proofs.Whole.{if_ok}
use Rattle.abstract_map.proofs.abstract_maps.AbstractMap.new_rest.Goals as goal

pub returns-clause-value : goal.returns-clause-value
returns-clause-value g c =
    let B = g.B.Base.algebra in
    let ctx = c.args.ctx.now in
    let m = c.args.self.now in
    let n = c.args.new.now in
    let same = c.in_ok-rest.ensures.value ∙ ap (λ t. t.rest) c.new.view_is in
    if_ok (λ r. r ≡ joined B ctx m.width c.in_ok-rest.rest (map (λ e. e.1) (filter (λ e. not (has_key (keys m) e.0)) c.root.result.now))) (λ r. r ≡ joined B ctx m.width n.rest (news m n)) c.joined_new.result
    (λ r h. h ∙ ap (λ x. joined B ctx m.width x (map (λ e. e.1) (filter (λ e. not (has_key (keys m) e.0)) c.root.result.now))) same
    ∙ ap (λ l. joined B ctx m.width n.rest (map (λ e. e.1) (filter (λ e. not (has_key (keys m) e.0)) l))) c.root.ensures.value ∙ ap (λ l. joined B ctx m.width n.rest l) (news_stand m n c.requires.new.order))
    c.joined_new.ensures.value
