use Rattle.program_analyses.proofs.One.{convert_has_some}
use Rattle.program_analyses.proofs.laws.convert_has_some.Goals as goal

pub returns : goal.returns
returns c = convert_has_some
