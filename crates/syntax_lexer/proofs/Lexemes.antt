-- The longest lexemes.
use Rattle.std.proofs.Common.{◌≡◌, ◌≢◌, ℕ, ◌+◌, ◌<◌, ◌≤◌, ◌⊎◌, ◌||◌, Bool, true, false, List, [], ◌∷◌, ◌++◌, length, take, drop, refl, ap, sym, ◌∙◌, subst, inl, inr, arith, take-append-drop, length-take}
use Rattle.std.specs.Prelude.{◌==◌, codes, IsTrue}
use Rattle.std.specs.List.{prefix_len, take_while}
use Rattle.std.specs.Char.{is_ascii_digit, is_ascii_uppercase, is_ascii_lowercase}
use Rattle.std.proofs.lemmas.List.Sums.{prefix_len-le-length}
use Rattle.std.proofs.lemmas.List.Folds.{length-prefix_len}
use Rattle.syntax_lexer.specs.declared.token.Keyword.{Keyword}
use Rattle.syntax_lexer.specs.declared.token.Mark.{Mark}
use Rattle.syntax_lexer.specs.declared.token.Mark.TheVariants.{Underscore}
use Rattle.syntax_lexer.specs.declared.lex_error.LexError.{LexError}
use Rattle.syntax_lexer.specs.declared.lex_error.LexError.TheVariants.{BadByte, LongName, BadNumber, NoMemory}
use Rattle.syntax_lexer.specs.declared.token.Kind.{Kind}
use Rattle.syntax_lexer.specs.declared.token.Kind.TheVariants as kind
use Rattle.syntax_lexer.specs.Bytes.{begins_name, is_word_byte, Stops, IsRun}
use Rattle.syntax_lexer.specs.Lexeme as lexeme
use Rattle.syntax_lexer.specs.Lexeme.{mark_text, keyword_text, IsReserved, IsNameRun, IsNumberRun, IsLexeme, IsLongest, Spells}
use Rattle.syntax_lexer.specs.Source as source
use Rattle.syntax_lexer.specs.Source.{BeginsNoSeparator, BeginsNoLexeme, IsFault}
use Rattle.syntax_lexer.specs.Scanning.{BeginsMark, BeginsNoMark, IsLongestMark, IsTokenAt, IsWordFault}
use Rattle.syntax_lexer.proofs.Numerals.{run_of, run_passes}
use Rattle.syntax_lexer.proofs.Tables.{mark_size}
use Rattle.syntax_lexer.proofs.Runs.{front_passes, front_stops, not_both, longest_run}

-- ---- runs

-- the bytes that a source begins with and that pass the test
pub front_len : (test : ℕ → Bool) (s : List ℕ) (n : ℕ) → n ≡ length (take_while test s) → n ≡ prefix_len test s
front_len test s n is = is ∙ length-prefix_len test s

pub front_run : (s : List ℕ) (n : ℕ) → n ≡ length (take_while is_word_byte s) → 0 < n → IsRun is_word_byte is_word_byte (take n s)
front_run s n is some =
    let len = front_len is_word_byte s n is in
    let fits = prefix_len-le-length is_word_byte s in
    run_of is_word_byte (take n s) (rw length-take (omega arith)) (rw len (front_passes is_word_byte s))

pub front_size : (s : List ℕ) (n : ℕ) → n ≡ length (take_while is_word_byte s) → length (take n s) ≡ n
front_size s n is =
    let len = front_len is_word_byte s n is in
    let fits = prefix_len-le-length is_word_byte s in
    rw length-take (omega arith)

-- each byte of a word begins a name or is a digit
word_first : (digit upper lower low_line : Bool) → IsTrue (((digit || upper) || lower) || low_line) → IsTrue ((upper || lower) || low_line) ⊎ IsTrue digit
word_first true upper lower low_line h = inr refl
word_first false upper lower low_line h = inl h

pub run_lexeme : (text : List ℕ) → IsRun is_word_byte is_word_byte text → IsLexeme text
run_lexeme [] run = absurd run
run_lexeme (b ∷ text) run =
    elim (word_first (is_ascii_digit b) (is_ascii_uppercase b) (is_ascii_lowercase b) (b == 95) run.0) [ inl name ↦ lexeme.name (name, run.1) | inr digit ↦ lexeme.number (digit, run.1) ]

-- the mark is `_`, or begins with no byte of a word
mark_apart : (m : Mark) → IsRun is_word_byte is_word_byte (mark_text m) ⊎ Stops is_word_byte (mark_text m)
mark_apart Underscore = inl (refl, (refl, tt))
mark_apart _ = inr refl

-- a word that is not `_` is no mark, and if it is no keyword it is not reserved
no_mark : (m : Mark) (text : List ℕ) → IsRun is_word_byte is_word_byte text → text ≢ codes "_" → text ≡ mark_text m → ⊥
no_mark Underscore text run apart e = apart e
no_mark _ text run apart e = let run' = subst (λ (x : List ℕ). IsRun is_word_byte is_word_byte x) e run in let no_ = run'.0 in cc

free : (text x : List ℕ) → IsRun is_word_byte is_word_byte text → text ≢ codes "_" → ((w : Keyword) → text ≢ keyword_text w) → text ≡ x → ¬ IsReserved x
free text x run apart none e (lexeme.mark m) = no_mark m text run apart e
free text x run apart none e (lexeme.keyword w) = none w e

pub free_word : (text : List ℕ) → IsRun is_word_byte is_word_byte text → text ≢ codes "_" → ((w : Keyword) → text ≢ keyword_text w) → ¬ IsReserved text
free_word text run apart none = free text text run apart none refl

-- a word and what begins with no byte of a word don't begin at one place
clash : (text rest other after : List ℕ) → IsRun is_word_byte is_word_byte text → Stops is_word_byte other → 0 < length other → text ++ rest ≡ other ++ after → ⊥
clash [] rest other after run stops some e = run
clash (b ∷ text) rest [] after run stops some e = omega arith
clash (b ∷ text) rest (c ∷ other) after run stops some e =
    let same : c ≡ b = cc in not_both (is_word_byte b) run.0 (subst (λ (x : ℕ). is_word_byte x ≡ false) same stops)

-- a run of bytes of a word that stops is the longest lexeme
pub longest_word : (text rest : List ℕ) → IsRun is_word_byte is_word_byte text → Stops is_word_byte rest → IsLongest text rest
longest_word text rest run stops = record {
  lexeme = run_lexeme text run;
  longest = λ other after e lex. no_longer other after e lex;
}
  where
    no_longer : (other after : List ℕ) → text ++ rest ≡ other ++ after → IsLexeme other → length other ≤ length text
    no_longer other after e (lexeme.name name) = longest_run is_word_byte text rest other after stops e (run_passes begins_name is_word_byte other name)
    no_longer other after e (lexeme.number number) = longest_run is_word_byte text rest other after stops e (run_passes is_ascii_digit is_word_byte other number)
    no_longer other after e (lexeme.mark m) = elim (mark_apart m) [
      | inl word ↦ longest_run is_word_byte text rest (mark_text m) after stops e (run_passes is_word_byte is_word_byte (mark_text m) word)
      | inr apart ↦ absurd (clash text rest (mark_text m) after run apart (mark_size m) e)
    ]

-- no word begins where no byte of a word stands
no_word : (first : ℕ → Bool) (s text rest : List ℕ) → Stops is_word_byte s → s ≡ text ++ rest → IsRun first is_word_byte text → ⊥
no_word first s [] rest stops e run = run
no_word first [] (b ∷ text) rest stops e run = cc
no_word first (c ∷ s) (b ∷ text) rest stops e run =
    let same : c ≡ b = cc in not_both (is_word_byte b) run.1.0 (subst (λ (x : ℕ). is_word_byte x ≡ false) same stops)

-- there the longest mark is the longest lexeme
pub longest_mark : (s : List ℕ) (m : Mark) → Stops is_word_byte s → BeginsMark s m → IsLongestMark s m → IsLongest (mark_text m) (drop (length (mark_text m)) s)
longest_mark s m stops begins longest = record {
  lexeme = lexeme.mark m;
  longest = λ other after e lex. no_longer other after (begins ∙ e) lex;
}
  where
    no_longer : (other after : List ℕ) → s ≡ other ++ after → IsLexeme other → length other ≤ length (mark_text m)
    no_longer other after e (lexeme.name name) = absurd (no_word begins_name s other after stops e name)
    no_longer other after e (lexeme.number number) = absurd (no_word is_ascii_digit s other after stops e number)
    no_longer other after e (lexeme.mark n) = longest n after e

-- and without a mark there is none
pub no_lexeme : (s : List ℕ) → Stops is_word_byte s → BeginsNoMark s → BeginsNoLexeme s
no_lexeme s stops no_mark text rest e (lexeme.name name) = no_word begins_name s text rest stops e name
no_lexeme s stops no_mark text rest e (lexeme.number number) = no_word is_ascii_digit s text rest stops e number
no_lexeme s stops no_mark text rest e (lexeme.mark m) = no_mark m rest e

-- ---- the front of a source

pub stops_at_front : (s : List ℕ) (n : ℕ) → n ≡ length (take_while is_word_byte s) → n ≡ 0 → Stops is_word_byte s
stops_at_front s n is none =
    let len : prefix_len is_word_byte s ≡ 0 = sym (front_len is_word_byte s n is) ∙ none in
    subst (λ k. Stops is_word_byte (drop k s)) len (front_stops is_word_byte s)

pub front_longest : (s : List ℕ) (n : ℕ) → n ≡ length (take_while is_word_byte s) → 0 < n → IsLongest (take n s) (drop n s)
front_longest s n is some =
    longest_word (take n s) (drop n s) (front_run s n is some) (rw (front_len is_word_byte s n is) (front_stops is_word_byte s))

pub word_token : (at n : ℕ) (s : List ℕ) (kind : Kind) → n ≡ length (take_while is_word_byte s) → 0 < n → Spells (take n s) kind
    → IsTokenAt at s (record { kind = kind; from = at; to = at + n })
word_token at n s kind is some spelled = record {
  text = take n s;
  rest = drop n s;
  split = sym (take-append-drop n s);
  longest = front_longest s n is some;
  spelled = spelled;
  from = refl;
  to = ap (λ k. at + k) (sym (front_size s n is));
}

pub mark_token : (at : ℕ) (s : List ℕ) (m : Mark) → Stops is_word_byte s → BeginsMark s m → IsLongestMark s m
    → IsTokenAt at s (record { kind = kind.Mark m; from = at; to = at + length (mark_text m) })
mark_token at s m stops begins longest = record {
  text = mark_text m;
  rest = drop (length (mark_text m)) s;
  split = begins;
  longest = longest_mark s m stops begins longest;
  spelled = lexeme.mark m;
  from = refl;
  to = refl;
}

fault_in : (at : ℕ) (text rest : List ℕ) (e : LexError) → IsLongest text rest → IsWordFault at text e → e ≢ NoMemory → IsFault at (text ++ rest) e
fault_in at text rest (BadByte place) longest fault other = absurd fault
fault_in at text rest (LongName place) longest fault other = rw fault.0 (source.long_name text longest fault.1 fault.2)
fault_in at text rest (BadNumber place) longest fault other = rw fault.0 (source.bad_number text longest fault.1 fault.2)
fault_in at text rest NoMemory longest fault other = absurd (other refl)

pub word_fault : (at n : ℕ) (s : List ℕ) (e : LexError) → n ≡ length (take_while is_word_byte s) → 0 < n → IsWordFault at (take n s) e → e ≢ NoMemory → IsFault at s e
word_fault at n s e is some fault other =
    subst (λ (x : List ℕ). IsFault at x e) (take-append-drop n s) (fault_in at (take n s) (drop n s) e (front_longest s n is some) fault other)

pub byte_fault : (at : ℕ) (s : List ℕ) → 0 < length s → BeginsNoSeparator s → Stops is_word_byte s → BeginsNoMark s → IsFault at s (BadByte at)
byte_fault at [] some apart stops no_mark = absurd (omega arith)
byte_fault at (b ∷ s) some apart stops no_mark = source.bad_byte apart (no_lexeme (b ∷ s) stops no_mark)
