use Rattle.semantics_laws.proofs.Kept.{entry_states_have_their_type}
use Rattle.semantics_laws.proofs.laws.entry_states_have_their_type.Goals as goal

pub returns : goal.returns
returns c = entry_states_have_their_type
