use Rattle.program_run.proofs.Ending.{ends_follow}
use Rattle.program_run.proofs.laws.ends_follow.Goals as goal

pub returns : goal.returns
returns c = ends_follow
