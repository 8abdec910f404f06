use Rattle.base_interval.specs.Compare.{compared_exact}
use Rattle.base_interval.proofs.laws.exact_comparisons.Goals as goal

pub returns : goal.returns
returns c = compared_exact
