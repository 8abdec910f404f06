use Rattle.syntax_lexer.proofs.Total.{total}
use Rattle.syntax_lexer.proofs.laws.list_or_fault.Goals as goal

pub returns : goal.returns
returns c = total
