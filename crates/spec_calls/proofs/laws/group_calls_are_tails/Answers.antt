use Rattle.spec_calls.proofs.Settled.{group_calls_are_tails}
use Rattle.spec_calls.proofs.laws.group_calls_are_tails.Goals as goal

pub returns : goal.returns
returns c = group_calls_are_tails
