use Rattle.support_modular_rows.proofs.Least.{rows_within}
use Rattle.support_modular_rows.proofs.laws.rows_within.Goals as goal

pub returns : goal.returns
returns c = rows_within
