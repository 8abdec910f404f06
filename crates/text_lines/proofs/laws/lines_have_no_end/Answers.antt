use Rattle.text_lines.proofs.TextOfLines.{lines_have_no_end}
use Rattle.text_lines.proofs.laws.lines_have_no_end.Goals as goal

pub returns : goal.returns
returns c = lines_have_no_end
