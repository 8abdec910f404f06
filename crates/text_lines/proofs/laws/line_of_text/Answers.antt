use Rattle.text_lines.proofs.TextOfLines.{line_of_text}
use Rattle.text_lines.proofs.laws.line_of_text.Goals as goal

pub returns : goal.returns
returns c = line_of_text
