-- The tokens of a source, and its first fault.
use Rattle.std.specs.Prelude.{◌≡◌, ℕ, ◌+◌, ◌<◌, ◌⊎◌, ◌==◌, Bool, not, List, [], ◌∷◌, ◌++◌, length, IsTrue, codes, Result, Ok, Err, Vec}
use Rattle.std.specs.declared.alloc.Global.{Global}
use Rattle.syntax_lexer.specs.declared.token.Token.{Token}
use Rattle.syntax_lexer.specs.declared.token.Kind.{Kind}
use Rattle.syntax_lexer.specs.declared.lex_error.LexError.{LexError}
use Rattle.syntax_lexer.specs.declared.lex_error.LexError.TheVariants.{BadByte, LongName, BadNumber, NoMemory}
use Rattle.syntax_lexer.specs.Bytes.{is_blank, Passes, Stops}
use Rattle.syntax_lexer.specs.Lexeme.{IsNameRun, IsNumberRun, IsLexeme, IsLongest, IsNumber, longest_name, Spells}

-- any byte but LF, which ends a line
abbrev pub is_in_line : ℕ → Bool
is_in_line b = not (b == 10)

-- A blank byte, or a comment: `//` and any bytes up to the line's end or the source's. The rest follows the separator.
pub data IsSeparator : List ℕ → List ℕ → Type 0 where
  blank : {b : ℕ} {rest : List ℕ} → IsTrue (is_blank b) → IsSeparator (b ∷ []) rest
  comment : {text rest : List ℕ} → Passes is_in_line text → Stops is_in_line rest → IsSeparator (codes "//" ++ text) rest

-- The first `at` bytes of the source are separators and these tokens, in order, and the rest comes next.
pub data Read (source : List ℕ) : List Token → ℕ → List ℕ → Type 0 where
  -- at first nothing is read
  nothing : Read source [] 0 source
  -- a separator is passed over
  separator : {tokens : List Token} {at : ℕ} (text : List ℕ) {rest : List ℕ}
      → Read source tokens at (text ++ rest) → IsSeparator text rest
      → Read source tokens (at + length text) rest
  -- the longest lexeme that begins here is a token
  token : {tokens : List Token} {at : ℕ} (text : List ℕ) {rest : List ℕ} (kind : Kind)
      → Read source tokens at (text ++ rest) → IsLongest text rest → Spells text kind
      → Read source (tokens ++ record { kind = kind; from = at; to = at + length text } ∷ []) (at + length text) rest

-- the whole source is separators and these tokens
abbrev pub IsLexedFrom : List ℕ → List Token → Type 0
IsLexedFrom source tokens = Read source tokens (length source) []

-- no separator begins here
abbrev pub BeginsNoSeparator : List ℕ → Type 0
BeginsNoSeparator source = (text rest : List ℕ) → source ≡ text ++ rest → ¬ IsSeparator text rest

-- no lexeme begins here
abbrev pub BeginsNoLexeme : List ℕ → Type 0
BeginsNoLexeme source = (text rest : List ℕ) → source ≡ text ++ rest → ¬ IsLexeme text

-- the place `at`, where the source goes on with these bytes, has this fault
pub data IsFault (at : ℕ) : List ℕ → LexError → Type 0 where
  -- a byte that begins neither a separator nor a lexeme
  bad_byte : {b : ℕ} {rest : List ℕ} → BeginsNoSeparator (b ∷ rest) → BeginsNoLexeme (b ∷ rest) → IsFault at (b ∷ rest) (BadByte at)
  -- a name of more than 64 bytes
  long_name : (text : List ℕ) {rest : List ℕ} → IsLongest text rest → IsNameRun text → longest_name < length text → IsFault at (text ++ rest) (LongName at)
  -- the longest run of letters, digits and `_` here begins with a digit and is no number
  bad_number : (text : List ℕ) {rest : List ℕ} → IsLongest text rest → IsNumberRun text → ((n : ℕ) → ¬ IsNumber text n) → IsFault at (text ++ rest) (BadNumber at)

-- this fault stands behind separators and tokens alone
pub record IsFirstFault (source : List ℕ) (error : LexError) : Type 0 where
  pub tokens : List Token
  pub at : ℕ
  pub rest : List ℕ
  pub before : Read source tokens at rest
  pub fault : IsFault at rest error

-- these tokens, unless memory ran out
abbrev pub IsOnly : Result (Vec Token Global) LexError → List Token → Type 0
IsOnly (Ok found) tokens = found.items ≡ tokens
IsOnly (Err error) tokens = error ≡ NoMemory

-- this error, unless memory ran out
abbrev pub IsRefusal : Result (Vec Token Global) LexError → LexError → Type 0
IsRefusal (Ok found) error = ⊥
IsRefusal (Err found) error = (found ≡ error) ⊎ (found ≡ NoMemory)
