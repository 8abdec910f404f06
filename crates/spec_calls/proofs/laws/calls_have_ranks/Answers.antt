use Rattle.spec_calls.proofs.Ranked.{calls_have_ranks}
use Rattle.spec_calls.proofs.laws.calls_have_ranks.Goals as goal

pub returns : goal.returns
returns c = calls_have_ranks
