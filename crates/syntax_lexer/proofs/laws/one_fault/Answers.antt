use Rattle.syntax_lexer.proofs.Unique.{one_fault}
use Rattle.syntax_lexer.proofs.laws.one_fault.Goals as goal

pub returns : goal.returns
returns c = one_fault
