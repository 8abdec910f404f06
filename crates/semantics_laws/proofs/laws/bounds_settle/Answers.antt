use Rattle.semantics_laws.proofs.Bounds.{bounds_settle}
use Rattle.semantics_laws.proofs.laws.bounds_settle.Goals as goal

pub returns : goal.returns
returns c = bounds_settle
