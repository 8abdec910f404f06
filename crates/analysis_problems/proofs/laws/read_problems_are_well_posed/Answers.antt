use Rattle.analysis_problems.proofs.WellPosed.{read_problems_are_well_posed}
use Rattle.analysis_problems.proofs.laws.read_problems_are_well_posed.Goals as goal

pub returns : goal.returns
returns c = read_problems_are_well_posed c.addresses_are_those_of_words.ensures
