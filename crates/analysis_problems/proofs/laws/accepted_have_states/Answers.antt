use Rattle.analysis_problems.proofs.States.{accepted_have_states}
use Rattle.analysis_problems.proofs.laws.accepted_have_states.Goals as goal

pub returns : goal.returns
returns c = accepted_have_states
