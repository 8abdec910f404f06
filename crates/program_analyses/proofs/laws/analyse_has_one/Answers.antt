use Rattle.program_analyses.proofs.One.{analyse_has_one}
use Rattle.program_analyses.proofs.laws.analyse_has_one.Goals as goal

pub returns : goal.returns
returns c = analyse_has_one
