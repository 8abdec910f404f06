use Rattle.text_element_readers.proofs.Told.{relations_are_read}
use Rattle.text_element_readers.proofs.laws.relations_are_read.Goals as goal

pub returns : goal.returns
returns c = relations_are_read
