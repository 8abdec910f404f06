use Rattle.program_laws.proofs.Agreement.{texts_are_read_back}
use Rattle.program_laws.proofs.laws.texts_are_read_back.Goals as goal

pub returns : goal.returns
returns c = texts_are_read_back
