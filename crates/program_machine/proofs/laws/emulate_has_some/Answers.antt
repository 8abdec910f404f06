use Rattle.program_machine.proofs.Whole.{emulate_has_some}
use Rattle.program_machine.proofs.laws.emulate_has_some.Goals as goal

pub returns : goal.returns
returns c = emulate_has_some
