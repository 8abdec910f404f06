use Rattle.program_laws.proofs.Agreement.{tables_are_told}
use Rattle.program_laws.proofs.laws.tables_are_told.Goals as goal

pub returns : goal.returns
returns c = tables_are_told
