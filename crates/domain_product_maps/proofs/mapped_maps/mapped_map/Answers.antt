use Rattle.domain_product_laws.specs.Calls.{mapped_map}
use Rattle.domain_product_maps.proofs.Maps.{made_fits, made_same, part_is, unfolded}
use Rattle.domain_product_maps.proofs.mapped_maps.mapped_map.Goals as goal

pub make_map-requires : goal.make_map-requires
make_map-requires g c =
    let to = g.P.To.Base.algebra in
    let ctx = c.args.ctx.now in
    let word = g.P.ProductPart.word_of in
    let note = g.P.ProductPart.note_of in
    let m = c.args.m.now in
    record {
      map = made_fits to ctx g.P.To.Base.CAP c.width.result c.mapped_cell.result c.mapped_cells.result (mapped_map word note m) c.width.ensures (part_is word note m.rest (record { word = c.rest.result.0.now; note = c.rest.result.1.now }) c.mapped_cell.result c.rest.ensures c.mapped_cell.ensures)
          c.mapped_cells.ensures (unfolded to ctx g.P.To.Base.CAP (mapped_map word note m) c.requires.fits);
    }

pub returns : goal.returns
returns g c =
    let word = g.P.ProductPart.word_of in
    let note = g.P.ProductPart.note_of in
    let m = c.args.m.now in
    made_same g.P.To.Base.algebra c.args.ctx.now g.P.To.Base.CAP c.width.result c.mapped_cell.result c.mapped_cells.result (mapped_map word note m) c.make_map.result c.width.ensures
    (part_is word note m.rest (record { word = c.rest.result.0.now; note = c.rest.result.1.now }) c.mapped_cell.result c.rest.ensures c.mapped_cell.ensures) c.mapped_cells.ensures c.requires.fits c.make_map.ensures.value
