use Rattle.std.proofs.Common.{max}
use Rattle.base_product.specs.Meaning.{paired}
use Rattle.domain_product_laws.specs.Calls.{zipped}
use Rattle.domain_product_maps.proofs.Maps.{made_fits, made_folded, zipped_unfolded}
use Rattle.domain_product_maps.proofs.zipped_maps.zip_map.Goals as goal

pub make_map-requires : goal.make_map-requires
make_map-requires g c =
    let a = g.A.Base.algebra in
    let b = g.B.Base.algebra in
    let x = c.args.x.now in
    let y = c.args.y.now in
    record {
      map = made_fits (paired a b) c.args.ctx.now (max g.A.Base.CAP g.B.Base.CAP) c.width.result c.zipped_rest.result c.zipped_cells.result (zipped x y) c.width.ensures c.zipped_rest.ensures c.zipped_cells.ensures
          (zipped_unfolded a b c.args.ctx.now g.A.Base.CAP g.B.Base.CAP x y c.requires.left c.requires.right c.requires.width);
    }

pub returns-clause-value : goal.returns-clause-value
returns-clause-value g c =
    made_folded (paired g.A.Base.algebra g.B.Base.algebra) c.args.ctx.now (max g.A.Base.CAP g.B.Base.CAP) c.width.result c.zipped_rest.result c.zipped_cells.result (zipped c.args.x.now c.args.y.now) c.make_map.result c.width.ensures
    c.zipped_rest.ensures c.zipped_cells.ensures c.make_map.ensures.value
