use Rattle.state_text.proofs.Described.{one_is_described}
use Rattle.state_text.proofs.laws.one_state_is_described.Goals as goal

pub returns : goal.returns
returns c = one_is_described
