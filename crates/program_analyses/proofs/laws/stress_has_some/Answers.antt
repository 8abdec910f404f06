use Rattle.program_analyses.proofs.StressOne.{stress_has_some}
use Rattle.program_analyses.proofs.laws.stress_has_some.Goals as goal

pub returns : goal.returns
returns c = stress_has_some
