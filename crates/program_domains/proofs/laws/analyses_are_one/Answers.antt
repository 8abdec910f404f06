use Rattle.program_domains.proofs.Bases.{analyses_are_one}
use Rattle.program_domains.proofs.laws.analyses_are_one.Goals as goal

pub returns : goal.returns
returns c = analyses_are_one
