use Rattle.program_domains.proofs.Bases.{analyses_have_some}
use Rattle.program_domains.proofs.laws.analyses_have_some.Goals as goal

pub returns : goal.returns
returns c = analyses_have_some
