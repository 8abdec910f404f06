use Rattle.program_run.proofs.Unique.{one_answer}
use Rattle.program_run.proofs.laws.one_answer.Goals as goal

pub returns : goal.returns
returns c = one_answer
