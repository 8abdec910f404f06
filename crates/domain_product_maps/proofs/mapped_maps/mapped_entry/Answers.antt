use Rattle.std.specs.Prelude.{slice_index}
use Rattle.abstract_map_laws.specs.Maps.{keys}
use Rattle.domain_product_maps.proofs.Maps.{entry_is}
use Rattle.domain_product_maps.proofs.mapped_maps.mapped_entry.Goals as goal

pub returns : goal.returns
returns g c =
    let m = c.args.m.now in
    entry_is g.P.ProductPart.word_of g.P.ProductPart.note_of m.cells c.args.place c.key_at.result (slice_index (keys m) c.args.place) (record { word = c.cell_at.result.0.now; note = c.cell_at.result.1.now }) c.mapped_cell.result c.with_key.result
    c.cell_at.ensures c.key_at.ensures c.mapped_cell.ensures c.with_key.ensures
