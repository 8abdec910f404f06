use Rattle.text_lines.proofs.TextOfLines.{lines_of_both}
use Rattle.text_lines.proofs.laws.lines_of_both.Goals as goal

pub returns : goal.returns
returns c = lines_of_both
