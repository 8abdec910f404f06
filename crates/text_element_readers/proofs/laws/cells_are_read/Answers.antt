use Rattle.text_element_readers.proofs.Told.{cells_are_read}
use Rattle.text_element_readers.proofs.laws.cells_are_read.Goals as goal

pub returns : goal.returns
returns g c = cells_are_read g.B.Base.algebra g.B.BaseText.texts g.B.CellBase.readings g.met.B.CellBase.tell g.B.Base.CAP
