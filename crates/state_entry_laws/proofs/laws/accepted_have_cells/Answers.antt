use Rattle.state_entry_laws.proofs.Accepted.{accepted_have_cells}
use Rattle.state_entry_laws.proofs.laws.accepted_have_cells.Goals as goal

pub returns : goal.returns
returns c = accepted_have_cells
