use Rattle.state_entry_laws.proofs.Reading.{entries_fit}
use Rattle.state_entry_laws.proofs.laws.entries_fit.Goals as goal

pub returns : goal.returns
returns c = entries_fit
