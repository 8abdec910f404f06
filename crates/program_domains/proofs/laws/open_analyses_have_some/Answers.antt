use Rattle.program_domains.proofs.Bases.{open_analyses_have_some}
use Rattle.program_domains.proofs.laws.open_analyses_have_some.Goals as goal

pub returns : goal.returns
returns c = open_analyses_have_some
