use Rattle.program_analyses.proofs.One.{slice_has_some}
use Rattle.program_analyses.proofs.laws.slice_has_some.Goals as goal

pub returns : goal.returns
returns c = slice_has_some
