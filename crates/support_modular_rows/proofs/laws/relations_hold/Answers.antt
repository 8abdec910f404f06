use Rattle.support_modular_rows.proofs.Least.{relations_hold}
use Rattle.support_modular_rows.proofs.laws.relations_hold.Goals as goal

pub returns : goal.returns
returns c = relations_hold
