use Rattle.support_modular_rows.proofs.Closure.{closed_under_sums}
use Rattle.support_modular_rows.proofs.laws.sums_are_members.Goals as goal

pub returns : goal.returns
returns c = closed_under_sums
