use Rattle.text_round_trips.proofs.Words.{cells_words_tell}
use Rattle.text_round_trips.proofs.laws.cells_words_tell.Goals as goal

pub returns : goal.returns
returns g c = cells_words_tell g.B.Base.algebra g.B.BaseText.texts g.B.CellBase.readings g.met.B.CellBase.tell
