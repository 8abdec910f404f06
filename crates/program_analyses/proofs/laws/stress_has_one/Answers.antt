use Rattle.program_analyses.proofs.StressOne.{stress_has_one}
use Rattle.program_analyses.proofs.laws.stress_has_one.Goals as goal

pub returns : goal.returns
returns c = stress_has_one
