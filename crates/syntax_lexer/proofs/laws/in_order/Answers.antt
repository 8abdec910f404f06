use Rattle.syntax_lexer.proofs.Places.{in_order}
use Rattle.syntax_lexer.proofs.laws.in_order.Goals as goal

pub returns : goal.returns
returns c = in_order
