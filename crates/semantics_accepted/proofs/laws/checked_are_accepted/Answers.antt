use Rattle.semantics_accepted.proofs.Accepted.{checked_are_accepted}
use Rattle.semantics_accepted.proofs.laws.checked_are_accepted.Goals as goal

pub returns : goal.returns
returns c = checked_are_accepted
