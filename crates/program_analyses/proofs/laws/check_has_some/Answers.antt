use Rattle.program_analyses.proofs.One.{check_has_some}
use Rattle.program_analyses.proofs.laws.check_has_some.Goals as goal

pub returns : goal.returns
returns c = check_has_some
