use Rattle.semantics_laws.proofs.Turns.{meanings_have_types}
use Rattle.semantics_laws.proofs.laws.meanings_have_types.Goals as goal

pub returns : goal.returns
returns c = meanings_have_types
