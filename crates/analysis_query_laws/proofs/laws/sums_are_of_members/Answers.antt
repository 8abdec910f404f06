use Rattle.analysis_query_laws.proofs.Relations.{sums_are_of_members}
use Rattle.analysis_query_laws.proofs.laws.sums_are_of_members.Goals as goal

pub returns : goal.returns
returns c = sums_are_of_members
