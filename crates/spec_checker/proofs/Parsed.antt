-- What the grammar says of the tree of a specification: each datatype has a constructor.
use Rattle.std.proofs.Common.{◌≤◌, ◌+◌, List, [], ◌∷◌, length, arith}
use Rattle.std.proofs.lemmas.List.Elements.{All-cons, All-nil}
use Rattle.syntax_parser.specs.Tree.{Datatype as DatatypeTree}
use Rattle.syntax_lexer.specs.declared.token.Mark.{Mark}
use Rattle.syntax_parser.specs.Exact.{HasTree}
use Rattle.syntax_parser.specs.Tree.{Item as ItemTree, Tree}
use Rattle.syntax_parser.specs.Grammar.{Leveled, Separated, Several, Case, Datatype, Item, Items}
use Rattle.spec_declarations.specs.Declarations.{HaveCases}
use Rattle.spec_checker.specs.Check.{IsParsed}

some_separated : {A : Type 0} (P : List Leveled → A → Type 0) (m : Mark) {us : List Leveled} {xs : List A} → Separated P m us xs → 1 ≤ length xs
some_separated P m (Separated.last h) = omega arith
some_separated P m (Separated.next s h rest) = omega arith

abbrev has_case : DatatypeTree → Type 0
has_case d = 1 ≤ length d.cases

items_have_cases : {us : List Leveled} {items : List ItemTree} → Items us items → HaveCases items
items_have_cases Several.none = All-nil has_case
items_have_cases (Several.next (Item.datatype (Datatype.datatype text s t u v cases)) rest) = All-cons has_case _ _ (some_separated Case Mark.Bar cases) (items_have_cases rest)
items_have_cases (Several.next (Item.map_type d) rest) = items_have_cases rest
items_have_cases (Several.next (Item.function d) rest) = items_have_cases rest
items_have_cases (Several.next (Item.decode d) rest) = items_have_cases rest

pub have_cases : (tree : Tree) → IsParsed tree → HaveCases tree.items
have_cases tree (tokens, end, h) = items_have_cases h.derived
