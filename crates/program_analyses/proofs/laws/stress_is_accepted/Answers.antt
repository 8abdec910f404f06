use Rattle.program_analyses.proofs.StressAccepted.{stress_is_accepted}
use Rattle.program_analyses.proofs.laws.stress_is_accepted.Goals as goal

pub returns : goal.returns
returns c = stress_is_accepted
