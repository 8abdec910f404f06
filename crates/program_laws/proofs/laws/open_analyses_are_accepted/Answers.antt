use Rattle.program_laws.proofs.Accepted.{open_analyses_are_accepted}
use Rattle.program_laws.proofs.laws.open_analyses_are_accepted.Goals as goal

pub returns : goal.returns
returns c = open_analyses_are_accepted
