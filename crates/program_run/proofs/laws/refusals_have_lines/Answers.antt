use Rattle.program_run.proofs.Lines.{refusals_have_lines}
use Rattle.program_run.proofs.laws.refusals_have_lines.Goals as goal

pub returns : goal.returns
returns c = refusals_have_lines
