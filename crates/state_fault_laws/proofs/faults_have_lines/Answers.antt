use Rattle.state_fault_laws.proofs.Faults.{faults_have_lines}
use Rattle.state_fault_laws.proofs.faults_have_lines.Goals as goal

pub returns : goal.returns
returns c = faults_have_lines
