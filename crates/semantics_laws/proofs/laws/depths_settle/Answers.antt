use Rattle.semantics_laws.proofs.Depths.{depths_settle}
use Rattle.semantics_laws.proofs.laws.depths_settle.Goals as goal

pub returns : goal.returns
returns c = depths_settle
