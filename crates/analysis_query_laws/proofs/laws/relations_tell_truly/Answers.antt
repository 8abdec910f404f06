use Rattle.analysis_query_laws.proofs.Relations.{relations_tell_truly}
use Rattle.analysis_query_laws.proofs.laws.relations_tell_truly.Goals as goal

pub returns : goal.returns
returns c = relations_tell_truly
