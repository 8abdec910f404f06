-- A text spells one token at most.
use Rattle.std.proofs.Common.{◌≡◌, ℕ, ◌<◌, Bool, true, false, List, [], ◌∷◌, ◌++◌, length, get_or, refl, ap, sym, ◌∙◌, subst, arith, Option, Some, None}
use Rattle.std.specs.Prelude.{codes, nat_le, find}
use Rattle.std.specs.Str.{bytes_eq}
use Rattle.std.specs.Char.{is_ascii_digit}
use Rattle.std.proofs.lemmas.Bool.{leb-true}
use Rattle.std.proofs.lemmas.Bool.Decides.{nat_tests}
use Rattle.syntax_lexer.specs.declared.token.Mark.{Mark}
use Rattle.syntax_lexer.specs.declared.token.Mark.TheVariants.{LParen}
use Rattle.syntax_lexer.specs.declared.token.Keyword.{Keyword}
use Rattle.syntax_lexer.specs.declared.token.Keyword.TheVariants.{KwType}
use Rattle.syntax_lexer.specs.declared.token.Kind.{Kind}
use Rattle.syntax_lexer.specs.declared.token.Kind.TheVariants as kind
use Rattle.syntax_lexer.specs.declared.marks.TheConstants.{LONGEST_FIRST}
use Rattle.syntax_lexer.specs.declared.keywords.TheConstants.{KEYWORDS}
use Rattle.syntax_lexer.specs.Bytes.{begins_name, IsRun}
use Rattle.syntax_lexer.specs.Lexeme as lexeme
use Rattle.syntax_lexer.specs.Lexeme.{mark_text, keyword_text, IsNameRun, IsNumberRun, IsNumeral, IsNumber, IsReserved, IsName, is_digit_of, value_from, is_capitalized, longest_name, Spells}
use Rattle.syntax_lexer.proofs.Runs.{not_both}

-- ---- a look-up by text gives each mark and each keyword back

mark_of : List ℕ → Option Mark
mark_of text = find (λ m. bytes_eq (mark_text m) text) LONGEST_FIRST

keyword_of : List ℕ → Option Keyword
keyword_of text = find (λ w. bytes_eq (keyword_text w) text) KEYWORDS

mark_found : (m : Mark) → mark_of (mark_text m) ≡ Some m
unfolding mark_of
mark_found LParen = refl
mark_found _ = refl

keyword_found : (w : Keyword) → keyword_of (keyword_text w) ≡ Some w
unfolding keyword_of
keyword_found KwType = refl
keyword_found _ = refl

keyword_no_mark : (w : Keyword) → mark_of (keyword_text w) ≡ None
unfolding mark_of
keyword_no_mark KwType = refl
keyword_no_mark _ = refl

one_mark : (m n : Mark) → mark_text m ≡ mark_text n → m ≡ n
one_mark m n e = let same : Some m ≡ Some n = sym (mark_found m) ∙ ap mark_of e ∙ mark_found n in cc

one_keyword : (v w : Keyword) → keyword_text v ≡ keyword_text w → v ≡ w
one_keyword v w e = let same : Some v ≡ Some w = sym (keyword_found v) ∙ ap keyword_of e ∙ keyword_found w in cc

mark_or_keyword : (m : Mark) (w : Keyword) → mark_text m ≡ keyword_text w → ⊥
mark_or_keyword m w e = let same : Some m ≡ None = sym (mark_found m) ∙ ap mark_of e ∙ keyword_no_mark w in cc

-- ---- by the first byte

-- whether the first byte is a digit
digit_first : List ℕ → Bool
digit_first text = is_ascii_digit (get_or text 0 0)

mark_digit : (m : Mark) → digit_first (mark_text m) ≡ false
unfolding digit_first
mark_digit LParen = refl
mark_digit _ = refl

keyword_digit : (w : Keyword) → digit_first (keyword_text w) ≡ false
unfolding digit_first
keyword_digit KwType = refl
keyword_digit _ = refl

letter_digit : (b : ℕ) → begins_name b ≡ true → is_ascii_digit b ≡ false
letter_digit b h = grind (arith, nat_tests)

decimal_digit : (b : ℕ) → is_digit_of 10 b ≡ true → is_ascii_digit b ≡ true
decimal_digit b h = grind (arith, nat_tests)

name_digit : (text : List ℕ) → IsNameRun text → digit_first text ≡ false
unfolding digit_first
name_digit [] run = absurd run
name_digit (b ∷ text) run = letter_digit b run.0

number_run_digit : (text : List ℕ) → IsNumberRun text → digit_first text ≡ true
unfolding digit_first
number_run_digit [] run = absurd run
number_run_digit (b ∷ text) run = run.0

numeral_digit : (text : List ℕ) → IsRun (is_digit_of 10) (is_digit_of 10) text → digit_first text ≡ true
unfolding digit_first
numeral_digit [] run = absurd run
numeral_digit (b ∷ text) run = decimal_digit b run.0

number_digit : (text : List ℕ) (n : ℕ) → IsNumber text n → digit_first text ≡ true
unfolding digit_first
number_digit text n (lexeme.decimal numeral) = numeral_digit text numeral.run
number_digit text n (lexeme.hexadecimal numeral) = refl

-- a digit is no other than a digit
digits_apart : (a b : List ℕ) → digit_first a ≡ true → digit_first b ≡ false → a ≡ b → ⊥
digits_apart a b yes_ no_ e = not_both (digit_first b) (ap digit_first (sym e) ∙ yes_) no_

-- ---- what a text spells

one_value : (base m n : ℕ) (a b : List ℕ) → IsNumeral base a m → IsNumeral base b n → a ≡ b → m ≡ n
one_value base m n a b first second e = sym first.value ∙ ap (value_from base 0) e ∙ second.value

no_two_forms : (m n : ℕ) (a b : List ℕ) → IsNumeral 10 a m → IsNumeral 16 b n → a ≡ codes "0x" ++ b → ⊥
no_two_forms m n a b first second e =
    let run : IsRun (is_digit_of 10) (is_digit_of 10) (codes "0x" ++ b) = subst (λ (x : List ℕ). IsRun (is_digit_of 10) (is_digit_of 10) x) e first.run in
    let no_ = run.1.1.0 in cc

one_number : (m n : ℕ) (a b : List ℕ) → IsNumber a m → IsNumber b n → a ≡ b → m ≡ n
one_number m n a b (lexeme.decimal first) (lexeme.decimal second) e = one_value 10 m n a b first second e
one_number m n a b (lexeme.decimal first) (lexeme.hexadecimal {digits = digits} second) e = absurd (no_two_forms m n a digits first second e)
one_number m n a b (lexeme.hexadecimal {digits = digits} first) (lexeme.decimal second) e = absurd (no_two_forms n m b digits second first (sym e))
one_number m n a b (lexeme.hexadecimal {digits = digits} first) (lexeme.hexadecimal {digits = other} second) e =
    let same : digits ≡ other = cc in one_value 16 m n digits other first second same

-- the case of the first letter is one
one_case : (a b : List ℕ) → is_capitalized a ≡ true → is_capitalized b ≡ false → a ≡ b → ⊥
one_case a b upper lower e = not_both (is_capitalized b) (ap is_capitalized (sym e) ∙ upper) lower

not_mark : (text : List ℕ) (m : Mark) → IsName text → text ≡ mark_text m → ⊥
not_mark text m name e = name.free (subst (λ (x : List ℕ). IsReserved x) (sym e) (lexeme.mark m))

not_keyword : (text : List ℕ) (w : Keyword) → IsName text → text ≡ keyword_text w → ⊥
not_keyword text w name e = name.free (subst (λ (x : List ℕ). IsReserved x) (sym e) (lexeme.keyword w))

not_number : (a b : List ℕ) (n : ℕ) → IsName a → IsNumber b n → a ≡ b → ⊥
not_number a b n name number e = digits_apart b a (number_digit b n number) (name_digit a name.run) (sym e)

pub spells_one : (a b : List ℕ) (k l : Kind) → Spells a k → Spells b l → a ≡ b → k ≡ l
spells_one a b k l (lexeme.mark m) (lexeme.mark n) e = ap kind.Mark (one_mark m n e)
spells_one a b k l (lexeme.mark m) (lexeme.keyword w) e = absurd (mark_or_keyword m w e)
spells_one a b k l (lexeme.mark m) (lexeme.upper name case) e = absurd (not_mark b m name (sym e))
spells_one a b k l (lexeme.mark m) (lexeme.lower name case) e = absurd (not_mark b m name (sym e))
spells_one a b k l (lexeme.mark m) (lexeme.number {n = n} number) e = absurd (digits_apart b (mark_text m) (number_digit b n number) (mark_digit m) (sym e))
spells_one a b k l (lexeme.keyword w) (lexeme.mark m) e = absurd (mark_or_keyword m w (sym e))
spells_one a b k l (lexeme.keyword v) (lexeme.keyword w) e = ap kind.Word (one_keyword v w e)
spells_one a b k l (lexeme.keyword w) (lexeme.upper name case) e = absurd (not_keyword b w name (sym e))
spells_one a b k l (lexeme.keyword w) (lexeme.lower name case) e = absurd (not_keyword b w name (sym e))
spells_one a b k l (lexeme.keyword w) (lexeme.number {n = n} number) e = absurd (digits_apart b (keyword_text w) (number_digit b n number) (keyword_digit w) (sym e))
spells_one a b k l (lexeme.upper name case) (lexeme.mark m) e = absurd (not_mark a m name e)
spells_one a b k l (lexeme.upper name case) (lexeme.keyword w) e = absurd (not_keyword a w name e)
spells_one a b k l (lexeme.upper name case) (lexeme.upper name' case') e = ap kind.Upper e
spells_one a b k l (lexeme.upper name case) (lexeme.lower name' case') e = absurd (one_case a b case case' e)
spells_one a b k l (lexeme.upper name case) (lexeme.number {n = n} number) e = absurd (not_number a b n name number e)
spells_one a b k l (lexeme.lower name case) (lexeme.mark m) e = absurd (not_mark a m name e)
spells_one a b k l (lexeme.lower name case) (lexeme.keyword w) e = absurd (not_keyword a w name e)
spells_one a b k l (lexeme.lower name case) (lexeme.upper name' case') e = absurd (one_case b a case' case (sym e))
spells_one a b k l (lexeme.lower name case) (lexeme.lower name' case') e = ap kind.Lower e
spells_one a b k l (lexeme.lower name case) (lexeme.number {n = n} number) e = absurd (not_number a b n name number e)
spells_one a b k l (lexeme.number {n = n} number) (lexeme.mark m) e = absurd (digits_apart a (mark_text m) (number_digit a n number) (mark_digit m) e)
spells_one a b k l (lexeme.number {n = n} number) (lexeme.keyword w) e = absurd (digits_apart a (keyword_text w) (number_digit a n number) (keyword_digit w) e)
spells_one a b k l (lexeme.number {n = n} number) (lexeme.upper name case) e = absurd (not_number b a n name number (sym e))
spells_one a b k l (lexeme.number {n = n} number) (lexeme.lower name case) e = absurd (not_number b a n name number (sym e))
spells_one a b k l (lexeme.number {n = m} first) (lexeme.number {n = n} second) e = ap kind.Number (one_number m n a b first second e)

-- ---- what spells nothing

mark_short : (m : Mark) → nat_le (length (mark_text m)) longest_name ≡ true
mark_short LParen = refl
mark_short _ = refl

keyword_short : (w : Keyword) → nat_le (length (keyword_text w)) longest_name ≡ true
keyword_short KwType = refl
keyword_short _ = refl

-- a long name spells nothing
pub long_spells : (a b : List ℕ) (k : Kind) → IsNameRun a → longest_name < length a → Spells b k → a ≡ b → ⊥
long_spells a b k run long (lexeme.mark m) e = let size = ap length e in let short = leb-true _ _ (mark_short m) in omega arith
long_spells a b k run long (lexeme.keyword w) e = let size = ap length e in let short = leb-true _ _ (keyword_short w) in omega arith
long_spells a b k run long (lexeme.upper name case) e = let size = ap length e in let short = name.short in omega arith
long_spells a b k run long (lexeme.lower name case) e = let size = ap length e in let short = name.short in omega arith
long_spells a b k run long (lexeme.number {n = n} number) e = digits_apart b a (number_digit b n number) (name_digit a run) (sym e)

-- nor does a run that begins with a digit and is no number
pub bad_spells : (a b : List ℕ) (k : Kind) → IsNumberRun a → ((n : ℕ) → ¬ IsNumber a n) → Spells b k → a ≡ b → ⊥
bad_spells a b k run none (lexeme.mark m) e = digits_apart a (mark_text m) (number_run_digit a run) (mark_digit m) e
bad_spells a b k run none (lexeme.keyword w) e = digits_apart a (keyword_text w) (number_run_digit a run) (keyword_digit w) e
bad_spells a b k run none (lexeme.upper name case) e = digits_apart a b (number_run_digit a run) (name_digit b name.run) e
bad_spells a b k run none (lexeme.lower name case) e = digits_apart a b (number_run_digit a run) (name_digit b name.run) e
bad_spells a b k run none (lexeme.number {n = n} number) e = none n (subst (λ (x : List ℕ). IsNumber x n) (sym e) number)

-- a name is no number
pub runs_apart : (a b : List ℕ) → IsNameRun a → IsNumberRun b → a ≡ b → ⊥
runs_apart a b name number e = digits_apart b a (number_run_digit b number) (name_digit a name) (sym e)
