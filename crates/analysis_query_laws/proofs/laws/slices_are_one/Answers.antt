use Rattle.analysis_query_laws.proofs.One.{slices_are_one}
use Rattle.analysis_query_laws.proofs.laws.slices_are_one.Goals as goal

pub returns : goal.returns
returns c = slices_are_one
