use Rattle.text_round_trips.proofs.Begin.{cells_begin}
use Rattle.text_round_trips.proofs.laws.cells_begin.Goals as goal

pub returns : goal.returns
returns g c = cells_begin g.B.BaseText.texts
