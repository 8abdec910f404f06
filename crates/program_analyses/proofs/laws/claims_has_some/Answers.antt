use Rattle.program_analyses.proofs.One.{claims_has_some}
use Rattle.program_analyses.proofs.laws.claims_has_some.Goals as goal

pub returns : goal.returns
returns c = claims_has_some
