use Rattle.text_lines.proofs.TextOfLines.{lines_are_the_text}
use Rattle.text_lines.proofs.laws.lines_are_the_text.Goals as goal

pub returns : goal.returns
returns c = lines_are_the_text
