-- What the steps of the scanner find.
use Rattle.std.specs.Prelude.{◌≡◌, ℕ, ◌+◌, ◌<◌, ◌≤◌, List, ◌++◌, length, drop}
use Rattle.syntax_lexer.specs.declared.token.Token.{Token}
use Rattle.syntax_lexer.specs.declared.token.Mark.{Mark}
use Rattle.syntax_lexer.specs.declared.lex_error.LexError.{LexError}
use Rattle.syntax_lexer.specs.declared.lex_error.LexError.TheVariants.{BadByte, LongName, BadNumber, NoMemory}
use Rattle.syntax_lexer.specs.Lexeme.{mark_text, IsNameRun, IsNumberRun, IsLongest, IsNumber, longest_name, Spells}

-- the bytes begin with the mark
abbrev pub BeginsMark : List ℕ → Mark → Type 0
BeginsMark source m = source ≡ mark_text m ++ drop (length (mark_text m)) source

-- the bytes begin with no mark
abbrev pub BeginsNoMark : List ℕ → Type 0
BeginsNoMark source = (m : Mark) (rest : List ℕ) → source ≡ mark_text m ++ rest → ⊥

-- each mark that the bytes begin with is no longer than this one
abbrev pub IsLongestMark : List ℕ → Mark → Type 0
IsLongestMark source m = (other : Mark) (rest : List ℕ) → source ≡ mark_text other ++ rest → length (mark_text other) ≤ length (mark_text m)

-- the fault of a run of letters, digits and `_` that is no token, at the place `at`
abbrev pub IsWordFault : ℕ → List ℕ → LexError → Type 0
IsWordFault at text (BadByte place) = ⊥
IsWordFault at text (LongName place) = (place ≡ at) × IsNameRun text × (longest_name < length text)
IsWordFault at text (BadNumber place) = (place ≡ at) × IsNumberRun text × ((n : ℕ) → ¬ IsNumber text n)
IsWordFault at text NoMemory = Unit {0}

-- the source begins with this token, which stands at the place `at`
pub record IsTokenAt (at : ℕ) (source : List ℕ) (token : Token) : Type 0 where
  pub text : List ℕ
  pub rest : List ℕ
  pub split : source ≡ text ++ rest
  pub longest : IsLongest text rest
  pub spelled : Spells text token.kind
  pub from : token.from ≡ at
  pub to : token.to ≡ at + length text
