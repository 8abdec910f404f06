-- A list of tokens has one tree, one place of a fault of syntax or one place that is too deep, and no two of these.
use Rattle.std.proofs.Common.{◌≡◌, ℕ, List, [], refl, sym, ◌∙◌, ap}
use Rattle.std.specs.Prelude.{Ok, Err}
use Rattle.syntax_lexer.specs.declared.token.Token.{Token}
use Rattle.syntax_grammar.specs.Tree.{Tree, Item}
use Rattle.syntax_grammar.specs.Parsing.{Outcome}
use Rattle.syntax_grammar.specs.ItemRules.{items}
use Rattle.syntax_grammar.specs.declared.rules.RuleFault.TheVariants.{TooDeep}
use Rattle.syntax_grammar.specs.Exact.{HasTree, IsDeepAt, IsSyntaxAt}
use Rattle.syntax_parser.proofs.Cut.{at}
use Rattle.syntax_parser.proofs.Exact.{deep_only, deep_place, only_err, only_ok, tree_only}
use Rattle.syntax_parser.proofs.Syntax.{syntax_only}

module _ (tokens : List Token) (end : ℕ) where
  pub one_tree : (tree other : Tree) → HasTree tokens end tree → HasTree tokens end other → tree ≡ other
  one_tree tree other has too =
      let items : tree.items ≡ other.items = only_ok tokens end other tree.items (at 0 []) too (tree_only tokens end tree has) in
      let ends : tree.end ≡ other.end = has.ends ∙ sym too.ends in
      ap (λ (xs : List Item). record { items = xs; end = tree.end }) items ∙ ap (λ (n : ℕ). record { items = other.items; end = n }) ends

  -- what the rules give for the tokens
  abbrev answer : Outcome (List Item)
  answer = items (at 0 tokens)

  pub one_syntax : (at_ other : ℕ) → IsSyntaxAt tokens end at_ → IsSyntaxAt tokens end other → at_ ≡ other
  one_syntax at_ other wrong too = sym (syntax_only tokens end at_ answer.0 answer.1 wrong refl).1 ∙ (syntax_only tokens end other answer.0 answer.1 too refl).1

  pub one_deep : (at_ other : ℕ) → IsDeepAt tokens at_ → IsDeepAt tokens other → at_ ≡ other
  one_deep at_ other deep too = sym (deep_place tokens end at_ _ deep (deep_only tokens at_ deep)) ∙ deep_place tokens end other _ too (deep_only tokens at_ deep)

  pub tree_or_syntax : (tree : Tree) (at_ : ℕ) → HasTree tokens end tree → IsSyntaxAt tokens end at_ → ⊥
  tree_or_syntax tree at_ has wrong =
      let read = tree_only tokens end tree has in
      let refused = (syntax_only tokens end at_ (Ok tree.items) (at 0 []) wrong read).0 in
      cc

  pub tree_or_deep : (tree : Tree) (at_ : ℕ) → HasTree tokens end tree → IsDeepAt tokens at_ → ⊥
  tree_or_deep tree at_ has deep = only_err tokens end tree TooDeep _ has (deep_only tokens at_ deep)

  pub syntax_or_deep : (at_ other : ℕ) → IsSyntaxAt tokens end at_ → IsDeepAt tokens other → ⊥
  syntax_or_deep at_ other wrong deep =
      let refused = (syntax_only tokens end at_ (Err TooDeep) _ wrong (deep_only tokens other deep)).0 in
      cc
