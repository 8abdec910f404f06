use Rattle.text_round_trips.proofs.Machines.{machines_have_use_texts}
use Rattle.text_round_trips.proofs.laws.machines_have_use_texts.Goals as goal

pub returns : goal.returns
returns c = machines_have_use_texts
