use Rattle.std.proofs.Common.{◌++◌, ap, ◌∙◌}
use Rattle.abstract_map_laws.specs.Maps.{keys}
use Rattle.domain_product_maps.proofs.Union.{either_is}
use Rattle.domain_product_maps.proofs.keys.either_key.Goals as goal

pub returns : goal.returns
returns g c =
    let xs = keys c.args.x.now in
    let all = c.ascending.ensures in
    either_is xs (keys c.args.y.now) c.in_ok-keys.keys.items c.in_ok-with_keys.field-0.items c.ascending.result.items (c.in_ok-keys.ensures ∙ ap (λ l. l ++ xs) c.new.ensures.items) c.in_ok-with_keys.ensures c.requires.right
    all.rises all.keeps all.adds_none
