use Rattle.spec_declarations.proofs.States.{machines_are_there}
use Rattle.spec_declarations.proofs.laws.machines_are_there.Goals as goal

pub returns : goal.returns
returns c = machines_are_there
