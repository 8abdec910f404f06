use Rattle.abstract_map_laws.specs.Maps.{cell}
use Rattle.domain_product_laws.specs.Calls.{zip_cells}
use Rattle.domain_product_maps.proofs.Maps.{keyed_is}
use Rattle.domain_product_maps.proofs.cells.zipped_cell.Goals as goal

pub returns : goal.returns
returns g c = keyed_is c.args.key (zip_cells (cell c.args.x.now c.args.key) (cell c.args.y.now c.args.key)) c.zipped_at.result c.with_key.result c.with_key.ensures c.zipped_at.ensures
