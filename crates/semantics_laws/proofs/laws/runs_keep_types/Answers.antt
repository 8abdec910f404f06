use Rattle.semantics_laws.proofs.Kept.{runs_keep_types}
use Rattle.semantics_laws.proofs.laws.runs_keep_types.Goals as goal

pub returns : goal.returns
returns c = runs_keep_types
