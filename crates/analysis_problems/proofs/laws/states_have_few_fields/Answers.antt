use Rattle.analysis_problems.proofs.CheckedStates.{states_have_few_fields}
use Rattle.analysis_problems.proofs.laws.states_have_few_fields.Goals as goal

pub returns : goal.returns
returns c = states_have_few_fields
