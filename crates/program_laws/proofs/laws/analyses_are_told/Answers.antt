use Rattle.program_laws.proofs.Agreement.{analyses_are_told}
use Rattle.program_laws.proofs.laws.analyses_are_told.Goals as goal

pub returns : goal.returns
returns c = analyses_are_told
