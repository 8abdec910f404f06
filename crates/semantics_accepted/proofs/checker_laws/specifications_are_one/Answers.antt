use Rattle.semantics_accepted.proofs.One.{specifications_are_one}
use Rattle.semantics_accepted.proofs.checker_laws.specifications_are_one.Goals as goal

pub returns : goal.returns
returns c = specifications_are_one
