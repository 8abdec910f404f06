use Rattle.support_modular_rows.proofs.Equal.{equal_forms}
use Rattle.support_modular_rows.proofs.laws.equal_forms_are_the_same.Goals as goal

pub returns : goal.returns
returns c = equal_forms
