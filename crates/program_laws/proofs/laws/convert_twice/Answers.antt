use Rattle.program_laws.proofs.Runs.{convert_twice}
use Rattle.program_laws.proofs.laws.convert_twice.Goals as goal

pub returns : goal.returns
returns c = convert_twice
