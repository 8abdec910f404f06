use Rattle.program_analyses.proofs.One.{convert_has_one}
use Rattle.program_analyses.proofs.laws.convert_has_one.Goals as goal

pub returns : goal.returns
returns c = convert_has_one
