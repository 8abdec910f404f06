use Rattle.program_laws.proofs.Runs.{analyse_then_check}
use Rattle.program_laws.proofs.laws.analyse_then_check.Goals as goal

pub returns : goal.returns
returns c = analyse_then_check
