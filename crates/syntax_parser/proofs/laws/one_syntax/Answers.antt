use Rattle.syntax_parser.proofs.Unique.{one_syntax}
use Rattle.syntax_parser.proofs.laws.one_syntax.Goals as goal

pub returns : goal.returns
returns c = one_syntax
