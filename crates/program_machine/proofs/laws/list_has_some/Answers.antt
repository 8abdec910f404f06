use Rattle.program_machine.proofs.Whole.{list_has_some}
use Rattle.program_machine.proofs.laws.list_has_some.Goals as goal

pub returns : goal.returns
returns c = list_has_some
