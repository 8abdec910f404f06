use Rattle.syntax_parser.proofs.Unique.{syntax_or_deep, tree_or_deep, tree_or_syntax}
use Rattle.syntax_parser.proofs.laws.no_two.Goals as goal

pub returns : goal.returns
returns c = λ tokens end. record { tree_or_syntax = tree_or_syntax tokens end; tree_or_deep = tree_or_deep tokens end; syntax_or_deep = syntax_or_deep tokens end }
