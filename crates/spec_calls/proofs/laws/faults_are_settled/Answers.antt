use Rattle.spec_calls.proofs.Settled.{faults_are_settled}
use Rattle.spec_calls.proofs.laws.faults_are_settled.Goals as goal

pub returns : goal.returns
returns c = faults_are_settled
