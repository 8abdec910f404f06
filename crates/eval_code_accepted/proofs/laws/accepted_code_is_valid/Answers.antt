use Rattle.eval_code_accepted.proofs.Bodies.{accepted_code_is_valid}
use Rattle.eval_code_accepted.proofs.laws.accepted_code_is_valid.Goals as goal

pub returns : goal.returns
returns c = accepted_code_is_valid
