use Rattle.eval_code_accepted.proofs.Asking.{accepted_code_asks_within}
use Rattle.eval_code_accepted.proofs.laws.accepted_code_asks_within.Goals as goal

pub returns : goal.returns
returns c = accepted_code_asks_within
