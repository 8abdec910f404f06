use Rattle.support_modular_rows.proofs.Closure.{append_joins}
use Rattle.support_modular_rows.proofs.laws.rows_together_join.Goals as goal

pub returns : goal.returns
returns c = append_joins
