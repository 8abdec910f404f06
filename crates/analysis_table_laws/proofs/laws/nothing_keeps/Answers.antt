use Rattle.analysis_table_laws.proofs.Notes.{nothing_keeps}
use Rattle.analysis_table_laws.proofs.laws.nothing_keeps.Goals as goal

pub returns : goal.returns
returns c = nothing_keeps
