use Rattle.spec_checker.proofs.Settled.{faults_are_settled}
use Rattle.spec_checker.proofs.laws.faults_are_settled.Goals as goal

pub returns : goal.returns
returns c = faults_are_settled
