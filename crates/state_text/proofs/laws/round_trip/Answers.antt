use Rattle.state_text.proofs.RoundTrip as lemma
use Rattle.state_text.proofs.laws.round_trip.Goals as goal

pub returns : goal.returns
returns c = lemma.round_trip
