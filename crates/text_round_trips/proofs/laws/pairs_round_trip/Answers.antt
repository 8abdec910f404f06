use Rattle.text_round_trips.proofs.Pairs.{pairs_round_trip}
use Rattle.text_round_trips.proofs.laws.pairs_round_trip.Goals as goal

pub returns : goal.returns
returns g c = pairs_round_trip g.A.WrittenElements.Reads g.B.WrittenElements.Reads g.A.WrittenElements.IsText g.B.WrittenElements.IsText g.A.WrittenElements.elements g.B.WrittenElements.elements g.A.WrittenElements.IsPrintable g.B.WrittenElements.IsPrintable
