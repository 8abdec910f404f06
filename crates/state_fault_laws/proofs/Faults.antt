-- No first fault is want of memory.
use Rattle.state_fault_laws.specs.Laws.{FaultsHaveLines}
use Rattle.state_fault_laws.proofs.Texts.{entries_tell, images_tell, sources_tell, states_tell}
use Rattle.state_fault_laws.proofs.Trees.{trees_tell}

pub faults_have_lines : FaultsHaveLines
faults_have_lines = record {
  source = sources_tell;
  tree = trees_tell;
  image = images_tell;
  entry = entries_tell;
  state = states_tell;
}
