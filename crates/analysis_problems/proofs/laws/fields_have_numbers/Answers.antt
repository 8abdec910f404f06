use Rattle.analysis_problems.proofs.CheckedStates.{fields_have_numbers}
use Rattle.analysis_problems.proofs.laws.fields_have_numbers.Goals as goal

pub returns : goal.returns
returns c = fields_have_numbers
