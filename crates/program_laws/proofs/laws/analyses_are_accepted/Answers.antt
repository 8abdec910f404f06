use Rattle.program_laws.proofs.Accepted.{analyses_are_accepted}
use Rattle.program_laws.proofs.laws.analyses_are_accepted.Goals as goal

pub returns : goal.returns
returns c = analyses_are_accepted
