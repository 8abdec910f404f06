-- Words: their bytes, their longest runs, and what they spell.
use Rattle.std.proofs.Common.{◌≡◌, ℕ, ◌<◌, Bool, List, [], ◌∷◌, get_or, refl, arith}
use Rattle.std.specs.Prelude.{IsTrue, IsAscii}
use Rattle.std.proofs.lemmas.Str.Ascii.{IsAscii-cons, IsAscii-nil}
use Rattle.std.proofs.lemmas.Bool.Decides.{nat_tests}
use Rattle.std.specs.Prelude.{Result, Ok, Err}
use Rattle.std.specs.Result.{IsOk, MatchResult}
use Rattle.std.specs.Char.{is_ascii_uppercase}
use Rattle.syntax_lexer.specs.Lexeme.{is_capitalized}
use Rattle.syntax_lexer.specs.Bytes.{is_word_byte, Passes}

-- a byte of a word is below 128
word_byte_ascii : (b : ℕ) → IsTrue (is_word_byte b) → b < 128
word_byte_ascii b h = grind (arith, nat_tests)

pub word_ascii : (s : List ℕ) → Passes is_word_byte s → IsAscii s
word_ascii [] h = IsAscii-nil
word_ascii (b ∷ s) h = IsAscii-cons b s (word_byte_ascii b h.0) (word_ascii s h.1)

pub is_ok_of : {A E : Type 0} (r : Result A E) (P : Type 0) (Q : A → Type 0) (R : E → Type 0) → MatchResult r Q (λ e. (¬ P) × R e) → P → IsOk r
is_ok_of (Ok a) P Q R h p = refl
is_ok_of (Err e) P Q R h p = absurd (h.0 p)

pub capital_first : (s : List ℕ) (b : Bool) → is_ascii_uppercase (get_or s 0 0) ≡ b → is_capitalized s ≡ b
capital_first [] b h = h
capital_first (c ∷ s) b h = h
