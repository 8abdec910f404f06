use Rattle.state_entry_laws.proofs.OneStates.{one_states_are_described}
use Rattle.state_entry_laws.proofs.laws.one_states_are_described.Goals as goal

pub returns : goal.returns
returns c = one_states_are_described
