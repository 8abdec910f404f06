use Rattle.semantics_laws.proofs.Kept.{steps_keep_types}
use Rattle.semantics_laws.proofs.laws.steps_keep_types.Goals as goal

pub returns : goal.returns
returns c = steps_keep_types
