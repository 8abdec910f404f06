use Rattle.abstract_map_laws.specs.Calls.{access_of}
use Rattle.abstract_map.specs.View.{keys_of}
use Rattle.domain_product_maps.proofs.Maps.{beside_is}
use Rattle.domain_product_maps.proofs.cells.zipped_at.Goals as goal

pub returns : goal.returns
returns g c =
    let keys = keys_of c.args.keys in
    beside_is c.access-first.result c.access-second.result c.pair_cells.result (access_of g.A.Base.algebra c.args.left.now c.args.x.now keys) (access_of g.B.Base.algebra c.args.right.now c.args.y.now keys) c.pair_cells.ensures
    c.access-first.ensures.value c.access-second.ensures.value
