use Rattle.program_laws.proofs.Runs.{owed_by_inputs}
use Rattle.program_laws.proofs.laws.owed_by_inputs.Goals as goal

pub returns : goal.returns
returns c = owed_by_inputs
