use Rattle.semantics_accepted.proofs.There.{specifications_are_there}
use Rattle.semantics_accepted.proofs.checker_laws.specifications_are_there.Goals as goal

pub returns : goal.returns
returns c = specifications_are_there
