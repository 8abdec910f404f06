use Rattle.syntax_lexer.proofs.Unique.{list_or_fault}
use Rattle.syntax_lexer.proofs.laws.no_fault_with_list.Goals as goal

pub returns : goal.returns
returns c = list_or_fault
