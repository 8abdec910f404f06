use Rattle.text_round_trips.proofs.Begin.{pairs_begin}
use Rattle.text_round_trips.proofs.laws.pairs_begin.Goals as goal

pub returns : goal.returns
returns g c = pairs_begin g.A.WrittenElements.IsText g.B.WrittenElements.IsText
