use Rattle.semantics_laws.proofs.CoreTyped.{cores_have_types}
use Rattle.semantics_laws.proofs.laws.cores_have_types.Goals as goal

pub returns : goal.returns
returns c = cores_have_types
