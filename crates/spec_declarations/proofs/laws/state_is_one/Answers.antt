use Rattle.spec_declarations.proofs.States.{state_is_one}
use Rattle.spec_declarations.proofs.laws.state_is_one.Goals as goal

pub returns : goal.returns
returns c = state_is_one
