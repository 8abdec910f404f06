use Rattle.program_domains.proofs.Bases.{open_analyses_are_one}
use Rattle.program_domains.proofs.laws.open_analyses_are_one.Goals as goal

pub returns : goal.returns
returns c = open_analyses_are_one
