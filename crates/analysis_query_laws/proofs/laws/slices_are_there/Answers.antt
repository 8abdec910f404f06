use Rattle.analysis_query_laws.proofs.There.{slices_are_there}
use Rattle.analysis_query_laws.proofs.laws.slices_are_there.Goals as goal

pub returns : goal.returns
returns c = slices_are_there
