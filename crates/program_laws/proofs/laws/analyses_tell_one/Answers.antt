use Rattle.program_laws.proofs.Agreement.{analyses_tell_one}
use Rattle.program_laws.proofs.laws.analyses_tell_one.Goals as goal

pub returns : goal.returns
returns c = analyses_tell_one
