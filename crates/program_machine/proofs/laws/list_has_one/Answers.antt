use Rattle.program_machine.proofs.Single.{list_has_one}
use Rattle.program_machine.proofs.laws.list_has_one.Goals as goal

pub returns : goal.returns
returns c = list_has_one
