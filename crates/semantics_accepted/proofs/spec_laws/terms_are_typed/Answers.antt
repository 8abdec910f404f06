use Rattle.semantics_accepted.proofs.Typing.{terms_are_typed}
use Rattle.semantics_accepted.proofs.spec_laws.terms_are_typed.Goals as goal

pub returns : goal.returns
returns c = terms_are_typed
