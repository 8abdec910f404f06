use Rattle.syntax_lexer.proofs.Unique.{one_list}
use Rattle.syntax_lexer.proofs.laws.one_list.Goals as goal

pub returns : goal.returns
returns c = one_list
