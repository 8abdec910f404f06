use Rattle.state_entry_laws.proofs.Accepted.{read_states_are_described}
use Rattle.state_entry_laws.proofs.laws.read_states_are_described.Goals as goal

pub returns : goal.returns
returns c = read_states_are_described
