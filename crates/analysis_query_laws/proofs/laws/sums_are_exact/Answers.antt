use Rattle.analysis_query_laws.proofs.Relations.{sums_are_exact}
use Rattle.analysis_query_laws.proofs.laws.sums_are_exact.Goals as goal

pub returns : goal.returns
returns c = sums_are_exact
