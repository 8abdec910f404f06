use Rattle.semantics_accepted.proofs.Decided.{trees_are_decided}
use Rattle.semantics_accepted.proofs.checker_laws.trees_are_decided.Goals as goal

pub returns : goal.returns
returns c = trees_are_decided
