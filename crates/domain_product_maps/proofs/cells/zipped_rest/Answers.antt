use Rattle.domain_product_maps.proofs.Maps.{rests_are}
use Rattle.domain_product_maps.proofs.cells.zipped_rest.Goals as goal

pub returns : goal.returns
returns g c = rests_are g.A.Base.algebra g.B.Base.algebra (c.args.left.now, c.args.right.now) c.args.x.now c.args.y.now c.new.result.items c.zipped_at.result c.new.ensures.items c.zipped_at.ensures
