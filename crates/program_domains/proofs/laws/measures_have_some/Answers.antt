use Rattle.program_domains.proofs.Measures.{measures_have_some}
use Rattle.program_domains.proofs.laws.measures_have_some.Goals as goal

pub returns : goal.returns
returns c = measures_have_some
