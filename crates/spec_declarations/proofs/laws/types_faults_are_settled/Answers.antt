use Rattle.spec_declarations.proofs.Settled.{faults_are_settled}
use Rattle.spec_declarations.proofs.laws.types_faults_are_settled.Goals as goal

pub returns : goal.returns
returns c = faults_are_settled
