-- Which tree the tokens of a source have, or at which token they go wrong.
use Rattle.std.specs.Prelude.{◌≡◌, ℕ, ◌<◌, ◌≤◌, List, [], ◌∷◌, ◌++◌, Result, Ok, Err}
use Rattle.syntax_lexer.specs.declared.token.Token.{Token}
use Rattle.syntax_grammar.specs.declared.ParseError.{ParseError}
use Rattle.syntax_grammar.specs.declared.ParseError.TheVariants.{Syntax, TooDeep, NoMemory}
use Rattle.syntax_grammar.specs.declared.tree.Tree.{Tree as CodeTree}
use Rattle.syntax_grammar.specs.Tree.{Tree, Item as ItemTree}
use Rattle.syntax_grammar.specs.View.{tree}
use Rattle.syntax_grammar.specs.Grammar.{Leveled, tokens_of, Items}
use Rattle.syntax_grammar.specs.Tokens.{max_level, place}

-- no token stands deeper than is allowed
abbrev pub Shallow : List Leveled → Type 0
Shallow [] = Unit {0}
Shallow (t ∷ ts) = (t.1 ≤ max_level) × Shallow ts

-- the tokens have this tree, with no token too deep
pub record HasTree (tokens : List Token) (end : ℕ) (found : Tree) : Type 0 where
  pub leveled : List Leveled
  pub spelled : tokens ≡ tokens_of leveled
  pub derived : Items leveled found.items
  pub shallow : Shallow leveled
  pub ends : found.end ≡ end

-- these tokens with these levels begin a list that has a tree
pub record Starts (us : List Leveled) : Type 0 where
  pub more : List Leveled
  pub items : List ItemTree
  pub derived : Items (us ++ more) items

-- these tokens begin a list that has a tree
pub record IsViable (tokens : List Token) : Type 0 where
  pub leveled : List Leveled
  pub spelled : tokens ≡ tokens_of leveled
  pub starts : Starts leveled

-- with the next of the tokens they aren't viable, or there is none, and they have no tree
abbrev pub GoesWrong : List Token → List Token → Type 0
GoesWrong before [] = (us : List Leveled) (items : List ItemTree) → before ≡ tokens_of us → Items us items → ⊥
GoesWrong before (t ∷ ts) = IsViable (before ++ t ∷ []) → ⊥

-- the first token up to and with which the tokens aren't viable, and no token before it is too deep
pub record IsSyntaxAt (tokens : List Token) (end place_ : ℕ) : Type 0 where
  pub before : List Leveled
  pub after : List Token
  pub whole : tokens ≡ tokens_of before ++ after
  pub here : place_ ≡ place end after
  pub starts : Starts before
  pub shallow : Shallow before
  pub wrong : GoesWrong (tokens_of before) after

-- the first token that stands too deep
pub record IsDeepAt (tokens : List Token) (place_ : ℕ) : Type 0 where
  pub before : List Leveled
  pub token : Leveled
  pub after : List Token
  pub whole : tokens ≡ tokens_of before ++ token.0 ∷ after
  pub here : place_ ≡ token.0.from
  pub starts : Starts (before ++ token ∷ [])
  pub shallow : Shallow before
  pub deep : max_level < token.1

-- what the parser may answer
abbrev pub Answers : List Token → ℕ → Result CodeTree ParseError → Type 0
Answers tokens end (Ok found) = HasTree tokens end (tree found)
Answers tokens end (Err (Syntax at)) = IsSyntaxAt tokens end at
Answers tokens end (Err (TooDeep at)) = IsDeepAt tokens at
Answers tokens end (Err NoMemory) = Unit {0}

-- the one answer, unless memory fails
abbrev pub IsOnly : Result CodeTree ParseError → Tree → Type 0
IsOnly (Ok found) wanted = tree found ≡ wanted
IsOnly (Err NoMemory) wanted = Unit {0}
IsOnly (Err (Syntax at)) wanted = ⊥
IsOnly (Err (TooDeep at)) wanted = ⊥

-- the one refusal, unless memory fails
abbrev pub IsRefusal : Result CodeTree ParseError → ParseError → Type 0
IsRefusal (Ok found) e = ⊥
IsRefusal (Err NoMemory) e = Unit {0}
IsRefusal (Err (Syntax at)) e = Syntax at ≡ e
IsRefusal (Err (TooDeep at)) e = TooDeep at ≡ e
