use Rattle.analysis_transfer_laws.proofs.Ordered.{uses_are_merged}
use Rattle.analysis_transfer_laws.proofs.laws.uses_are_merged.Goals as goal

pub returns : goal.returns
returns c = uses_are_merged
