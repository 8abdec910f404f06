use Rattle.support_reachability.proofs.Tables.{some_table}
use Rattle.support_reachability.proofs.laws.graphs_have_tables.Goals as goal

pub returns : goal.returns
returns c = some_table
