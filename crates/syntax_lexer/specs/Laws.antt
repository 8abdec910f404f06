-- What holds of each source and its tokens.
use Rattle.std.specs.Prelude.{◌≡◌, ℕ, ◌<◌, ◌≤◌, ◌⊎◌, List, length, All, AllPairs}
use Rattle.std.specs.List.{slice_range}
use Rattle.syntax_lexer.specs.declared.token.Token.{Token}
use Rattle.syntax_lexer.specs.declared.lex_error.LexError.{LexError}
use Rattle.syntax_lexer.specs.Lexeme.{Spells}
use Rattle.syntax_lexer.specs.Source.{IsLexedFrom, IsFirstFault}

-- a source has one list of tokens at most
abbrev pub OneList : Type 0
OneList = (source : List ℕ) (tokens others : List Token) → IsLexedFrom source tokens → IsLexedFrom source others → tokens ≡ others

-- and one first fault at most
abbrev pub OneFault : Type 0
OneFault = (source : List ℕ) (error other : LexError) → IsFirstFault source error → IsFirstFault source other → error ≡ other

-- but not both
abbrev pub NoFaultWithList : Type 0
NoFaultWithList = (source : List ℕ) (tokens : List Token) (error : LexError) → IsLexedFrom source tokens → ¬ IsFirstFault source error

-- and one of them
abbrev pub ListOrFault : Type 0
ListOrFault = (source : List ℕ) → ((tokens : List Token) × IsLexedFrom source tokens) ⊎ ((error : LexError) × IsFirstFault source error)

-- the bytes from the token's first to its last spell it
pub record IsInPlace (source : List ℕ) (token : Token) : Type 0 where
  pub some : token.from < token.to
  pub within : token.to ≤ length source
  pub spelled : Spells (slice_range source token.from token.to) token.kind

-- each token stands where its span says
abbrev pub EachInPlace : Type 0
EachInPlace = (source : List ℕ) (tokens : List Token) → IsLexedFrom source tokens → All (IsInPlace source) tokens

-- and none begins before an earlier one ends
abbrev pub InOrder : Type 0
InOrder = (source : List ℕ) (tokens : List Token) → IsLexedFrom source tokens → AllPairs (λ token later. token.to ≤ later.from) tokens
