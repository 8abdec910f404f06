use Rattle.program_domains.proofs.Sums.{sums_are_exact}
use Rattle.program_domains.proofs.laws.sums_are_exact.Goals as goal

pub returns : goal.returns
returns c = sums_are_exact
