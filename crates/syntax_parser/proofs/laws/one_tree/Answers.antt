use Rattle.syntax_parser.proofs.Unique.{one_tree}
use Rattle.syntax_parser.proofs.laws.one_tree.Goals as goal

pub returns : goal.returns
returns c = one_tree
