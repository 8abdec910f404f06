use Rattle.syntax_parser.proofs.Unique.{one_deep}
use Rattle.syntax_parser.proofs.laws.one_deep.Goals as goal

pub returns : goal.returns
returns c = λ tokens. one_deep tokens 0
