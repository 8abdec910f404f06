-- What holds of each list of tokens.
use Rattle.std.specs.Prelude.{◌≡◌, ℕ, ◌⊎◌, List}
use Rattle.syntax_lexer.specs.declared.token.Token.{Token}
use Rattle.syntax_grammar.specs.Tree.{Tree}
use Rattle.syntax_grammar.specs.Exact.{HasTree, IsDeepAt, IsSyntaxAt}

-- one tree at most
abbrev pub OneTree : Type 0
OneTree = (tokens : List Token) (end : ℕ) (tree other : Tree) → HasTree tokens end tree → HasTree tokens end other → tree ≡ other

-- one first token that is wrong at most
abbrev pub OneSyntax : Type 0
OneSyntax = (tokens : List Token) (end place other : ℕ) → IsSyntaxAt tokens end place → IsSyntaxAt tokens end other → place ≡ other

-- one first token that is too deep at most
abbrev pub OneDeep : Type 0
OneDeep = (tokens : List Token) (place other : ℕ) → IsDeepAt tokens place → IsDeepAt tokens other → place ≡ other

-- no two of these
pub record Apart (tokens : List Token) (end : ℕ) : Type 0 where
  pub tree_or_syntax : (tree : Tree) (place : ℕ) → HasTree tokens end tree → ¬ IsSyntaxAt tokens end place
  pub tree_or_deep : (tree : Tree) (place : ℕ) → HasTree tokens end tree → ¬ IsDeepAt tokens place
  pub syntax_or_deep : (place other : ℕ) → IsSyntaxAt tokens end place → ¬ IsDeepAt tokens other

abbrev pub NoTwo : Type 0
NoTwo = (tokens : List Token) (end : ℕ) → Apart tokens end

-- and one of them
abbrev pub OneOfThree : Type 0
OneOfThree = (tokens : List Token) (end : ℕ)
    → ((tree : Tree) × HasTree tokens end tree) ⊎ (((place : ℕ) × IsSyntaxAt tokens end place) ⊎ ((place : ℕ) × IsDeepAt tokens place))
