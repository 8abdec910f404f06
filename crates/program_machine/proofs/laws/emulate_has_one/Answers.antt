use Rattle.program_machine.proofs.Single.{emulate_has_one}
use Rattle.program_machine.proofs.laws.emulate_has_one.Goals as goal

pub returns : goal.returns
returns c = emulate_has_one
