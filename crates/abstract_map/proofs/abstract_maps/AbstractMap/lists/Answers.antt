use Rattle.std.proofs.Common.{map, ap, ◌∙◌}
use Rattle.std.specs.Prelude.{is_some}
use Rattle.abstract_map_laws.specs.Keys.{has_key}
use Rattle.abstract_map.proofs.ByKey.{listed_has, some_of_map}
use Rattle.abstract_map.proofs.abstract_maps.AbstractMap.lists.Goals as goal

pub returns : goal.returns
returns g c = c.is_some.ensures ∙ some_of_map (λ x. x.now) c.get.result ∙ ap (λ o. is_some o) c.get.ensures ∙ listed_has c.args.key c.cells.result.now ∙ ap (λ l. has_key (map (λ e. e.0) l) c.args.key) c.cells.ensures.value
