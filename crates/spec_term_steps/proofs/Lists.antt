-- How many terms a list has.
use Rattle.std.proofs.Common.{◌≡◌, List, [], ◌∷◌, length, map, refl, ap, suc}
use Rattle.syntax_parser.specs.Tree.{terms as exprs}
use Rattle.syntax_parser.specs.View.{term as expr}
use Rattle.syntax_parser.specs.declared.tree.Expr.{Expr}
use Rattle.spec_typing.specs.Terms.{terms_len}

pub terms_len_map : (args : List Expr) → terms_len (exprs (map expr args)) ≡ length args
terms_len_map [] = refl
terms_len_map (a ∷ args) = ap suc (terms_len_map args)
