use Rattle.semantics_accepted.proofs.Typing.{wanted_types_are_had}
use Rattle.semantics_accepted.proofs.spec_laws.wanted_types_are_had.Goals as goal

pub returns : goal.returns
returns c = wanted_types_are_had
