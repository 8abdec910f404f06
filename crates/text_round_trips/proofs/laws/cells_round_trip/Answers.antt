use Rattle.text_round_trips.proofs.Cells.{cells_round_trip}
use Rattle.text_round_trips.proofs.laws.cells_round_trip.Goals as goal

pub returns : goal.returns
returns g c = cells_round_trip g.B.Base.algebra g.B.BaseText.texts g.B.CellBase.readings g.met.B.CellBase.tell
