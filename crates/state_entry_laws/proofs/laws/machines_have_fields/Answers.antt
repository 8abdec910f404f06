use Rattle.state_entry_laws.proofs.Fields.{machines_have_fields}
use Rattle.state_entry_laws.proofs.laws.machines_have_fields.Goals as goal

pub returns : goal.returns
returns c = machines_have_fields
