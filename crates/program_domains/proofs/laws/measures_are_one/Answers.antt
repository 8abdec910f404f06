use Rattle.program_domains.proofs.Measures.{measures_are_one}
use Rattle.program_domains.proofs.laws.measures_are_one.Goals as goal

pub returns : goal.returns
returns c = measures_are_one
