use Rattle.text_element_readers.proofs.Told.{pairs_are_read}
use Rattle.text_element_readers.proofs.laws.pairs_are_read.Goals as goal

pub returns : goal.returns
returns g c = pairs_are_read g.A.PlainReading.Reads g.B.PlainReading.Reads g.A.PlainReading.elements g.B.PlainReading.elements
