-- Each list of tokens has a tree, a fault of syntax, or a token that is too deep.
use Rattle.std.proofs.Common.{◌≡◌, ℕ, ◌⊎◌, inl, inr, List, refl, subst}
use Rattle.std.specs.Prelude.{Ok, Err}
use Rattle.syntax_lexer.specs.declared.token.Token.{Token}
use Rattle.syntax_grammar.specs.Tree.{Tree, Item}
use Rattle.syntax_grammar.specs.Parsing.{Outcome}
use Rattle.syntax_grammar.specs.ItemRules.{items}
use Rattle.syntax_grammar.specs.Grammar.{Items}
use Rattle.syntax_grammar.specs.declared.rules.RuleFault.TheVariants.{Syntax, TooDeep, NoMemory}
use Rattle.syntax_grammar.specs.Exact.{HasTree, IsDeepAt, IsSyntaxAt}
use Rattle.syntax_grammar.specs.Tokens.{place}
use Rattle.syntax_parser.proofs.Cut.{at}
use Rattle.syntax_parser.proofs.Exact.{deep_answer, syntax_answer, tree_answer}
use Rattle.syntax_parser.proofs.Found.{Read}
use Rattle.syntax_parser.proofs.ItemsFound.{Flat, items_found}

abbrev pub Total : List Token → ℕ → Type 0
Total tokens end = ((tree : Tree) × HasTree tokens end tree) ⊎ (((at_ : ℕ) × IsSyntaxAt tokens end at_) ⊎ ((at_ : ℕ) × IsDeepAt tokens at_))

pub total : (tokens : List Token) (end : ℕ) → Total tokens end
total tokens end = by (items (at 0 tokens)) refl
  where
    by : (o : Outcome (List Item)) → items (at 0 tokens) ≡ o → Total tokens end
    by (Ok xs, new) e = inl (record { items = xs; end = end }, tree_answer tokens end xs new e)
    by (Err Syntax, new) e = inr (inl (place end new.rest, syntax_answer tokens end (place end new.rest) new e refl))
    by (Err TooDeep, new) e = inr (inr (place end new.rest, deep_answer tokens end (place end new.rest) new e refl))
    by (Err NoMemory, new) e = absurd (subst (λ (o : Outcome (List Item)). Read (Flat Items) tokens o) e (items_found tokens))
