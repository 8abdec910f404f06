use Rattle.domain_product_maps.proofs.Maps.{noted_is}
use Rattle.domain_product_maps.proofs.mapped_maps.mapped_cell.Goals as goal

pub returns : goal.returns
returns g c = noted_is c.in_ok-word.word (g.P.ProductPart.word_of c.args.word.now) (g.P.ProductPart.note_of c.args.note.now) c.note.result c.with_note.result c.with_note.ensures c.in_ok-word.ensures c.note.ensures
