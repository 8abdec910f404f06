use Rattle.program_analyses.proofs.One.{slice_has_one}
use Rattle.program_analyses.proofs.laws.slice_has_one.Goals as goal

pub returns : goal.returns
returns c = slice_has_one
