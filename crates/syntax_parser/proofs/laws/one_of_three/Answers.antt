use Rattle.syntax_parser.proofs.Total.{total}
use Rattle.syntax_parser.proofs.laws.one_of_three.Goals as goal

pub returns : goal.returns
returns c = total
