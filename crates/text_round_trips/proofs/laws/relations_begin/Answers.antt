use Rattle.text_round_trips.proofs.Begin.{relations_begin}
use Rattle.text_round_trips.proofs.laws.relations_begin.Goals as goal

pub returns : goal.returns
returns c = relations_begin
