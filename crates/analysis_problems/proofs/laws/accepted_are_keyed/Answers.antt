use Rattle.analysis_problems.proofs.States.{accepted_are_keyed}
use Rattle.analysis_problems.proofs.laws.accepted_are_keyed.Goals as goal

pub returns : goal.returns
returns c = accepted_are_keyed
