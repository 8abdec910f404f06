use Rattle.program_analyses.proofs.One.{analyse_has_some}
use Rattle.program_analyses.proofs.laws.analyse_has_some.Goals as goal

pub returns : goal.returns
returns c = analyse_has_some
