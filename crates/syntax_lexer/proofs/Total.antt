-- Each source has a list of tokens or a first fault.
use Rattle.std.proofs.Common.{◌≡◌, ◌≢◌, ℕ, zero, suc, ◌+◌, ◌-◌, ◌<◌, ◌≤◌, ◌^◌, ◌⊎◌, Bool, true, false, List, [], ◌∷◌, ◌++◌, length, take, drop, get_or, refl, ap, sym, ◌∙◌, subst, inl, inr, arith, append-nil, length-append, length-drop, length-take, take-append-drop}
use Rattle.std.specs.Prelude.{codes}
use Rattle.std.specs.List.{prefix_len}
use Rattle.std.proofs.lemmas.Bool.{cases_lt}
use Rattle.std.proofs.Math.Seq.{drop-append_seam}
use Rattle.syntax_lexer.specs.declared.token.Mark.{Mark}
use Rattle.syntax_lexer.specs.declared.token.Mark.TheVariants.{LParen, Underscore}
use Rattle.syntax_lexer.specs.declared.token.Keyword.{Keyword}
use Rattle.syntax_lexer.specs.declared.token.Keyword.TheVariants.{KwType}
use Rattle.syntax_lexer.specs.declared.token.Kind.{Kind}
use Rattle.syntax_lexer.specs.declared.token.Kind.TheVariants as kind
use Rattle.syntax_lexer.specs.declared.token.Token.{Token}
use Rattle.syntax_lexer.specs.declared.lex_error.LexError.{LexError}
use Rattle.syntax_lexer.specs.declared.lex_error.LexError.TheVariants.{BadByte, LongName, BadNumber}
use Rattle.syntax_lexer.specs.declared.marks.TheConstants.{LONGEST_FIRST}
use Rattle.syntax_lexer.specs.declared.keywords.TheConstants.{KEYWORDS}
use Rattle.syntax_lexer.specs.Bytes.{is_blank, is_word_byte, Passes, IsRun}
use Rattle.syntax_lexer.specs.Lexeme as lexeme
use Rattle.syntax_lexer.specs.Lexeme.{mark_text, keyword_text, IsNameRun, IsNumberRun, IsLexeme, IsLongest, IsNumeral, IsNumber, IsReserved, IsName, is_digit_of, value_from, is_capitalized, longest_name, Spells}
use Rattle.syntax_lexer.specs.Source as source
use Rattle.syntax_lexer.specs.Source.{is_in_line, IsSeparator, Read, IsLexedFrom, BeginsNoSeparator, IsFault, IsFirstFault}
use Rattle.syntax_lexer.specs.Scanning.{BeginsMark, BeginsNoMark, IsLongestMark}
use Rattle.syntax_lexer.proofs.Runs.{front_passes, front_stops, not_both}
use Rattle.syntax_lexer.proofs.Tables.{mark_place, keyword_place, longest_at}
use Rattle.syntax_lexer.proofs.Numerals.{hex_number, no_hex_number, no_decimal, run_of}
use Rattle.syntax_lexer.proofs.Lexemes.{longest_word, longest_mark, no_lexeme, run_lexeme, free_word}
use Rattle.syntax_lexer.proofs.Unique.{separator_some, lexeme_some}
use Rattle.syntax_lexer.proofs.Places.{left_is, within}

-- ---- tests

which : (b : Bool) → (b ≡ true) ⊎ (b ≡ false)
which true = inl refl
which false = inr refl

-- whether s begins with p
prefix : (p s : List ℕ) → ((rest : List ℕ) × (s ≡ p ++ rest)) ⊎ ((rest : List ℕ) → s ≢ p ++ rest)
prefix [] s = inl (s, refl)
prefix (x ∷ p) [] = inr (λ rest e. cc)
prefix (x ∷ p) (y ∷ s) = elim (same_number x y) [
  | inl same ↦ (elim (prefix p s) [
    | inl found ↦ inl (found.0, (let e = found.1 in cc))
    | inr none ↦ inr (λ rest e. none rest (cc))
  ])
  | inr apart ↦ inr (λ rest e. apart (cc))
]
  where
    same_number : (m n : ℕ) → (m ≡ n) ⊎ (m ≢ n)
    same_number m n = elim (cases_lt m n) [
      | inl less ↦ inr (λ e. omega arith)
      | inr more ↦ (elim (cases_lt n m) [ inl less ↦ inr (λ e. omega arith) | inr equal ↦ inl (omega arith) ])
    ]

-- whether all bytes pass
passes : (test : ℕ → Bool) (s : List ℕ) → Passes test s ⊎ ¬ Passes test s
passes test [] = inl tt
passes test (b ∷ s) = elim (which (test b)) [
  | inl yes_ ↦ (elim (passes test s) [ inl rest ↦ inl (yes_, rest) | inr none ↦ inr (λ all. none all.1) ])
  | inr no_ ↦ inr (λ all. not_both (test b) all.0 no_)
]

-- ---- numbers

numeral : (base : ℕ) (s : List ℕ) → ((n : ℕ) × IsNumeral base s n) ⊎ ((n : ℕ) → ¬ IsNumeral base s n)
numeral base [] = inr (λ n numeral. numeral.run)
numeral base (b ∷ s) = elim (passes (is_digit_of base) (b ∷ s)) [
  | inl all ↦ (elim (cases_lt (value_from base 0 (b ∷ s)) (2 ^ 64)) [
    | inl small ↦ inl (value_from base 0 (b ∷ s), record { run = (all.0, all); value = refl; small = small })
    | inr large ↦ inr (λ n numeral. let value = numeral.value in let small = numeral.small in omega arith)
  ])
  | inr none ↦ inr (λ n numeral. none numeral.run.1)
]

number : (s : List ℕ) → ((n : ℕ) × IsNumber s n) ⊎ ((n : ℕ) → ¬ IsNumber s n)
number s = elim (prefix (codes "0x") s) [
  | inl hex ↦ (elim (numeral 16 hex.0) [
    | inl found ↦ inl (found.0, hex_number s hex.0 found.0 hex.1 found.1)
    | inr none ↦ inr (no_hex_number s hex.0 hex.1 none)
  ])
  | inr apart ↦ (elim (numeral 10 s) [
    | inl found ↦ inl (found.0, lexeme.decimal found.1)
    | inr none ↦ inr (no_decimal s apart none)
  ])
]

-- ---- keywords and marks

-- whether s is p
equal : (p s : List ℕ) → (s ≡ p) ⊎ (s ≢ p)
equal p s = elim (prefix p s) [ inl found ↦ whole found.0 found.1 | inr none ↦ inr (λ e. none [] (e ∙ sym (append-nil p))) ]
  where
    whole : (rest : List ℕ) → s ≡ p ++ rest → (s ≡ p) ⊎ (s ≢ p)
    whole [] e = inl (e ∙ append-nil p)
    whole (b ∷ rest) e = inr (λ same. let size = sym (ap length same) ∙ ap length e ∙ length-append p (b ∷ rest) in omega arith)

-- what holds below i and at i holds below the next
up_to : (P : ℕ → Type 0) (i : ℕ) → ((k : ℕ) → k < i → P k) → P i → (k : ℕ) → k < suc i → P k
up_to P i below here k less = elim (cases_lt k i) [ inl before ↦ below k before | inr at ↦ (let same : i ≡ k = omega arith in subst P same here) ]

keyword_from : (left i : ℕ) (text : List ℕ) → i + left ≡ 32 → ((k : ℕ) → k < i → text ≢ keyword_text (get_or KEYWORDS k KwType))
    → ((w : Keyword) × (text ≡ keyword_text w)) ⊎ ((w : Keyword) → text ≢ keyword_text w)
keyword_from zero i text all none = inr (λ w e. let place = keyword_place w in none place.0 (omega (arith, place.1)) (e ∙ ap keyword_text (sym place.2)))
keyword_from (suc left) i text all none = elim (equal (keyword_text (get_or KEYWORDS i KwType)) text) [
  | inl here ↦ inl (get_or KEYWORDS i KwType, here)
  | inr apart ↦ keyword_from left (suc i) text (omega arith) (up_to (λ k. text ≢ keyword_text (get_or KEYWORDS k KwType)) i none apart)
]

mark_from : (left i : ℕ) (s : List ℕ) → i + left ≡ 27 → ((k : ℕ) → k < i → (rest : List ℕ) → s ≢ mark_text (get_or LONGEST_FIRST k LParen) ++ rest)
    → ((m : Mark) × BeginsMark s m × IsLongestMark s m) ⊎ BeginsNoMark s
mark_from zero i s all none = inr (λ m rest e. let place = mark_place m in none place.0 (omega (arith, place.1)) rest (e ∙ ap (λ m. mark_text m ++ rest) (sym place.2)))
mark_from (suc left) i s all none = elim (prefix (mark_text (get_or LONGEST_FIRST i LParen)) s) [
  | inl found ↦ inl (get_or LONGEST_FIRST i LParen, begins (mark_text (get_or LONGEST_FIRST i LParen)) found.0 found.1, longest_at s i (λ k rest below. none k below rest))
  | inr apart ↦ mark_from left (suc i) s (omega arith) (up_to (λ k. (rest : List ℕ) → s ≢ mark_text (get_or LONGEST_FIRST k LParen) ++ rest) i none apart)
]
  where
    begins : (p rest : List ℕ) → s ≡ p ++ rest → s ≡ p ++ drop (length p) s
    begins p rest e = e ∙ ap (λ (x : List ℕ). p ++ x) (sym (ap (drop (length p)) e ∙ drop-append_seam p rest))

-- ---- words

-- what a word is: a token, a name that is too long, or no number
data Word (text : List ℕ) : Type 0 where
  token : (k : Kind) → Spells text k → Word text
  long : IsNameRun text → longest_name < length text → Word text
  bad : IsNumberRun text → ((n : ℕ) → ¬ IsNumber text n) → Word text

name_word : (text : List ℕ) → IsNameRun text → ¬ IsReserved text → Word text
name_word text run free = elim (cases_lt longest_name (length text)) [
  | inl more ↦ long run more
  | inr short ↦ (let name : IsName text = record { run = run; short = short; free = free } in
      (elim (which (is_capitalized text)) [ inl upper ↦ token (kind.Upper text) (lexeme.upper name upper) | inr lower ↦ token (kind.Lower text) (lexeme.lower name lower) ]))
]

number_word : (text : List ℕ) → IsNumberRun text → Word text
number_word text run = elim (number text) [ inl found ↦ token (kind.Number found.0) (lexeme.number found.1) | inr none ↦ bad run none ]

run_word : (text : List ℕ) → IsRun is_word_byte is_word_byte text → ¬ IsReserved text → Word text
run_word text run free = by_first text free (run_lexeme text run)
  where
    by_first : (text : List ℕ) → ¬ IsReserved text → IsLexeme text → Word text
    by_first text free (lexeme.name name) = name_word text name free
    by_first text free (lexeme.number run) = number_word text run
    by_first text free (lexeme.mark m) = token (kind.Mark m) (lexeme.mark m)

word : (text : List ℕ) → IsRun is_word_byte is_word_byte text → Word text
word text run = elim (equal (codes "_") text) [
  | inl low_line ↦ token (kind.Mark Underscore) (rw low_line (lexeme.mark Underscore))
  | inr apart ↦ (elim (keyword_from 32 0 text refl (λ k below. absurd (omega arith))) [
    | inl found ↦ token (kind.Word found.0) (rw found.1 (lexeme.keyword found.0))
    | inr none ↦ run_word text run (free_word text run apart none)
  ])
]

-- ---- one step

-- what a source that is not at its end goes on with
data Next (s : List ℕ) : Type 0 where
  separator : (text rest : List ℕ) → s ≡ text ++ rest → IsSeparator text rest → Next s
  token : (text rest : List ℕ) (k : Kind) → s ≡ text ++ rest → IsLongest text rest → Spells text k → Next s
  fault : ((at : ℕ) → (e : LexError) × IsFault at s e) → Next s

word_next : (text rest : List ℕ) → IsLongest text rest → Word text → Next (text ++ rest)
word_next text rest longest (token k spelled) = token text rest k refl longest spelled
word_next text rest longest (long run more) = fault (λ at. (LongName at, source.long_name text longest run more))
word_next text rest longest (bad run none) = fault (λ at. (BadNumber at, source.bad_number text longest run none))

-- no separator begins with other bytes
no_separator : (b : ℕ) (s : List ℕ) → is_blank b ≡ false → ((rest : List ℕ) → b ∷ s ≢ codes "//" ++ rest) → BeginsNoSeparator (b ∷ s)
no_separator b s plain apart text rest e (source.blank {b = c} blank) = let same : b ≡ c = cc in not_both (is_blank c) blank (ap is_blank (sym same) ∙ plain)
no_separator b s plain apart text rest e (source.comment {text = body} inside stops) = apart (body ++ rest) e

front : (test : ℕ → Bool) (s : List ℕ) → s ≡ take (prefix_len test s) s ++ drop (prefix_len test s) s
front test s = sym (take-append-drop (prefix_len test s) s)

run_front : (b : ℕ) (s : List ℕ) → is_word_byte b ≡ true → IsRun is_word_byte is_word_byte (take (prefix_len is_word_byte (b ∷ s)) (b ∷ s))
run_front b s first = run_of is_word_byte (take (prefix_len is_word_byte (b ∷ s)) (b ∷ s)) (rw (first, length-take) (omega arith)) (front_passes is_word_byte (b ∷ s))

plain_next : (b : ℕ) (s : List ℕ) → BeginsNoSeparator (b ∷ s) → Next (b ∷ s)
plain_next b s apart = elim (which (is_word_byte b)) [
  | inl first ↦ (let n = prefix_len is_word_byte (b ∷ s) in let run = run_front b s first in
      subst (λ (x : List ℕ). Next x) (take-append-drop n (b ∷ s))
      (word_next (take n (b ∷ s)) (drop n (b ∷ s)) (longest_word (take n (b ∷ s)) (drop n (b ∷ s)) run (front_stops is_word_byte (b ∷ s))) (word (take n (b ∷ s)) run)))
  | inr stops ↦ (elim (mark_from 27 0 (b ∷ s) refl (λ k below. absurd (omega arith))) [
    | inl found ↦ token (mark_text found.0) (drop (length (mark_text found.0)) (b ∷ s)) (kind.Mark found.0) found.1 (longest_mark (b ∷ s) found.0 stops found.1 found.2) (lexeme.mark found.0)
    | inr none ↦ fault (λ at. (BadByte at, source.bad_byte apart (no_lexeme (b ∷ s) stops none)))
  ])
]

next : (b : ℕ) (s : List ℕ) → Next (b ∷ s)
next b s = elim (which (is_blank b)) [
  | inl blank ↦ separator (b ∷ []) s refl (source.blank blank)
  | inr plain ↦ (elim (prefix (codes "//") (b ∷ s)) [
    | inl comment ↦ separator (codes "//" ++ take (prefix_len is_in_line comment.0) comment.0) (drop (prefix_len is_in_line comment.0) comment.0)
        (comment.1 ∙ ap (λ (x : List ℕ). codes "//" ++ x) (front is_in_line comment.0)) (source.comment (front_passes is_in_line comment.0) (front_stops is_in_line comment.0))
    | inr apart ↦ plain_next b s (no_separator b s plain apart)
  ])
]

-- ---- the whole source

abbrev pub Total : List ℕ → Type 0
Total s = ((tokens : List Token) × IsLexedFrom s tokens) ⊎ ((e : LexError) × IsFirstFault s e)

shorter : (text rest : List ℕ) (n : ℕ) → 0 < length text → length (text ++ rest) ≤ suc n → length rest ≤ n
shorter text rest n some fits = let size = length-append text rest in omega arith

total_from : (n : ℕ) (s : List ℕ) (tokens : List Token) (at : ℕ) (rest : List ℕ) → length rest ≤ n → Read s tokens at rest → Total s
total_from n s tokens at [] fits read =
    let none : [] ≡ drop at s = left_is s tokens at [] read in
    let size : 0 ≡ length s - at = ap length none ∙ length-drop at s in
    let before = within s tokens at [] read in
    let end : at ≡ length s = omega arith in
    inl (tokens, subst (λ (k : ℕ). Read s tokens k []) end read)
total_from zero s tokens at (b ∷ rest) fits read = absurd (omega arith)
total_from (suc n) s tokens at (b ∷ rest) fits read = elim (next b rest) [
  | separator text behind e here ↦
      total_from n s tokens (at + length text) behind (shorter text behind n (separator_some text behind here) (subst (λ (x : List ℕ). length x ≤ suc n) e fits))
      (source.separator text (subst (λ (x : List ℕ). Read s tokens at x) e read) here)
  | token text behind k e longest spelled ↦
      total_from n s (tokens ++ (record { kind = k; from = at; to = at + length text }) ∷ []) (at + length text) behind
      (shorter text behind n (lexeme_some text longest.lexeme) (subst (λ (x : List ℕ). length x ≤ suc n) e fits))
      (source.token text k (subst (λ (x : List ℕ). Read s tokens at x) e read) longest spelled)
  | fault here ↦ (let found = here at in inr (found.0, record { tokens = tokens; at = at; rest = b ∷ rest; before = read; fault = found.1 }))
]

pub total : (s : List ℕ) → Total s
total s = total_from (length s) s [] 0 s (omega arith) source.nothing
