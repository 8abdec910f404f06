use Rattle.text_round_trips.proofs.Relations.{relations_round_trip}
use Rattle.text_round_trips.proofs.laws.relations_round_trip.Goals as goal

pub returns : goal.returns
returns c = relations_round_trip
