use Rattle.program_run.proofs.Exact.{exact_answers}
use Rattle.program_run.proofs.laws.exact_answers.Goals as goal

pub returns : goal.returns
returns c = exact_answers
