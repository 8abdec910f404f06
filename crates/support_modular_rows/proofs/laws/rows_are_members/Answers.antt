use Rattle.support_modular_rows.proofs.Closure.{rows_are_members}
use Rattle.support_modular_rows.proofs.laws.rows_are_members.Goals as goal

pub returns : goal.returns
returns c = rows_are_members
