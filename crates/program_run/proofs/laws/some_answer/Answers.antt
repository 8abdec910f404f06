use Rattle.program_run.proofs.Exists.{some_answer}
use Rattle.program_run.proofs.laws.some_answer.Goals as goal

pub returns : goal.returns
returns c = some_answer
