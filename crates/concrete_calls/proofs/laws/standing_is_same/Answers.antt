use Rattle.concrete_calls.proofs.Same.{same}
use Rattle.concrete_calls.proofs.laws.standing_is_same.Goals as goal

pub returns : goal.returns
returns c x v h = same x v h.describes h.single
