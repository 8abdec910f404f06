-- A source has one list of tokens or one first fault, and not both.
use Rattle.std.proofs.Common.{◌≡◌, ℕ, ◌+◌, ◌<◌, ◌≤◌, ◌⊎◌, ◌||◌, Bool, true, false, List, [], ◌∷◌, ◌++◌, length, get_or, refl, ap, sym, ◌∙◌, subst, inl, inr, arith, append-nil, length-append, ◌≢◌}
use Rattle.std.specs.Prelude.{◌==◌, Result, Ok, Err, Vec, IsErrAnd}
use Rattle.std.specs.declared.alloc.Global.{Global}
use Rattle.std.proofs.lemmas.Bool.Decides.{nat_tests}
use Rattle.std.specs.Char.{is_ascii_digit}
use Rattle.syntax_lexer.specs.declared.token.Mark.{Mark}
use Rattle.syntax_lexer.specs.declared.token.Mark.TheVariants.{LParen}
use Rattle.syntax_lexer.specs.declared.token.Kind.{Kind}
use Rattle.syntax_lexer.specs.declared.token.Token.{Token}
use Rattle.syntax_lexer.specs.declared.lex_error.LexError.{LexError}
use Rattle.syntax_lexer.specs.declared.lex_error.LexError.TheVariants.{BadByte, LongName, BadNumber, NoMemory}
use Rattle.syntax_lexer.specs.Bytes.{is_blank, begins_name, is_word_byte, IsRun}
use Rattle.syntax_lexer.specs.Lexeme as lexeme
use Rattle.syntax_lexer.specs.Lexeme.{mark_text, IsNameRun, IsNumberRun, IsLexeme, IsLongest, Spells}
use Rattle.syntax_lexer.specs.Source as source
use Rattle.syntax_lexer.specs.Source.{is_in_line, IsSeparator, Read, IsLexedFrom, BeginsNoSeparator, BeginsNoLexeme, IsFault, IsFirstFault, IsOnly, IsRefusal}
use Rattle.syntax_lexer.proofs.Runs.{not_both, longest_run}
use Rattle.syntax_lexer.proofs.Tables.{mark_size}
use Rattle.syntax_lexer.proofs.Spelled.{spells_one, long_spells, bad_spells, runs_apart}

-- ---- parts of one list

same_split : (a b c d : List ℕ) → a ++ b ≡ c ++ d → length a ≡ length c → (a ≡ c) × (b ≡ d)
same_split [] b [] d e size = (refl, e)
same_split [] b (y ∷ c) d e size = absurd (omega arith)
same_split (x ∷ a) b [] d e size = absurd (omega arith)
same_split (x ∷ a) b (y ∷ c) d e size =
    let rest : (a ≡ c) × (b ≡ d) = same_split a b c d (cc) (omega arith) in
    let first : x ≡ y = cc in
    (let same : a ≡ c = rest.0 in cc, rest.1)

-- ---- separators and lexemes begin otherwise

-- whether a separator begins with the byte
begins_separator : ℕ → Bool
begins_separator b = is_blank b || b == 47

word_no_separator : (b : ℕ) → is_word_byte b ≡ true → begins_separator b ≡ false
unfolding begins_separator
word_no_separator b h = grind (arith, nat_tests)

mark_no_separator : (m : Mark) → begins_separator (get_or (mark_text m) 0 0) ≡ false
unfolding begins_separator
mark_no_separator LParen = refl
mark_no_separator _ = refl

run_no_separator : (first : ℕ → Bool) (text : List ℕ) → IsRun first is_word_byte text → begins_separator (get_or text 0 0) ≡ false
run_no_separator first [] run = absurd run
run_no_separator first (b ∷ text) run = word_no_separator b run.1.0

lexeme_no_separator : (text : List ℕ) → IsLexeme text → begins_separator (get_or text 0 0) ≡ false
lexeme_no_separator text (lexeme.name run) = run_no_separator begins_name text run
lexeme_no_separator text (lexeme.number run) = run_no_separator is_ascii_digit text run
lexeme_no_separator text (lexeme.mark m) = mark_no_separator m

separator_first : (text rest : List ℕ) → IsSeparator text rest → begins_separator (get_or text 0 0) ≡ true
unfolding begins_separator
separator_first text rest (source.blank {b = b} blank) = rw blank refl
separator_first text rest (source.comment passes stops) = refl

run_some : (first : ℕ → Bool) (text : List ℕ) → IsRun first is_word_byte text → 0 < length text
run_some first [] run = absurd run
run_some first (b ∷ text) run = omega arith

pub lexeme_some : (text : List ℕ) → IsLexeme text → 0 < length text
lexeme_some text (lexeme.name run) = run_some begins_name text run
lexeme_some text (lexeme.number run) = run_some is_ascii_digit text run
lexeme_some text (lexeme.mark m) = mark_size m

pub separator_some : (text rest : List ℕ) → IsSeparator text rest → 0 < length text
separator_some text rest (source.blank {b = b} blank) = omega arith
separator_some text rest (source.comment passes stops) = omega arith

first_byte : (text rest : List ℕ) → 0 < length text → get_or (text ++ rest) 0 0 ≡ get_or text 0 0
first_byte [] rest some = absurd (omega arith)
first_byte (b ∷ text) rest some = refl

separator_or_lexeme : (text rest text' rest' : List ℕ) → text ++ rest ≡ text' ++ rest' → IsSeparator text rest → IsLexeme text' → ⊥
separator_or_lexeme text rest text' rest' e separator lex =
    let same : get_or text 0 0 ≡ get_or text' 0 0 =
    sym (first_byte text rest (separator_some text rest separator)) ∙ ap (λ (s : List ℕ). get_or s 0 0) e ∙ first_byte text' rest' (lexeme_some text' lex) in
    not_both (begins_separator (get_or text' 0 0)) (ap begins_separator (sym same) ∙ separator_first text rest separator) (lexeme_no_separator text' lex)

one_separator : (text rest text' rest' : List ℕ) → text ++ rest ≡ text' ++ rest' → IsSeparator text rest → IsSeparator text' rest' → (text ≡ text') × (rest ≡ rest')
one_separator text rest text' rest' e (source.blank blank) (source.blank blank') = same_split text rest text' rest' e refl
one_separator text rest text' rest' e (source.blank {b = b} blank) (source.comment passes' stops') =
    let slash : b ≡ 47 = cc in absurd (not_both (is_blank b) blank (ap is_blank slash))
one_separator text rest text' rest' e (source.comment passes stops) (source.blank {b = b} blank') =
    let slash : b ≡ 47 = cc in absurd (not_both (is_blank b) blank' (ap is_blank slash))
one_separator text rest text' rest' e (source.comment {text = body} passes stops) (source.comment {text = body'} passes' stops') =
    let inner : body ++ rest ≡ body' ++ rest' = cc in
    let no_longer : length body' ≤ length body = longest_run is_in_line body rest body' rest' stops inner passes' in
    let no_shorter : length body ≤ length body' = longest_run is_in_line body' rest' body rest stops' (sym inner) passes in
    same_split text rest text' rest' e (omega arith)

one_lexeme : (text rest text' rest' : List ℕ) → text ++ rest ≡ text' ++ rest' → IsLongest text rest → IsLongest text' rest' → (text ≡ text') × (rest ≡ rest')
one_lexeme text rest text' rest' e first second =
    let no_longer : length text' ≤ length text = first.longest text' rest' e second.lexeme in
    let no_shorter : length text ≤ length text' = second.longest text rest (sym e) first.lexeme in
    same_split text rest text' rest' e (omega arith)

-- ---- runs of steps, from the front

-- from a place, where the source goes on so, one reads these tokens and comes to a place, where it goes on so
data Goes : ℕ → List ℕ → List Token → ℕ → List ℕ → Type 0 where
  done : {at : ℕ} {rest : List ℕ} → Goes at rest [] at rest
  separator : {at to : ℕ} (text : List ℕ) {rest end : List ℕ} {tokens : List Token} → IsSeparator text rest → Goes (at + length text) rest tokens to end → Goes at (text ++ rest) tokens to end
  token : {at to : ℕ} (text : List ℕ) (kind : Kind) {rest end : List ℕ} {tokens : List Token} → IsLongest text rest → Spells text kind → Goes (at + length text) rest tokens to end
      → Goes at (text ++ rest) (record { kind = kind; from = at; to = at + length text } ∷ tokens) to end

-- no step leads on from here
record IsEnd (s : List ℕ) : Type 0 where
  no_separator : (text rest : List ℕ) → s ≡ text ++ rest → IsSeparator text rest → ⊥
  no_token : (text rest : List ℕ) (kind : Kind) → s ≡ text ++ rest → IsLongest text rest → Spells text kind → ⊥

goes_on : {at mid to : ℕ} {s rest end : List ℕ} {tokens more : List Token} → Goes at s tokens mid rest → Goes mid rest more to end → Goes at s (tokens ++ more) to end
goes_on done next = next
goes_on (separator text here after) next = separator text here (goes_on after next)
goes_on (token text kind longest spelled after) next = token text kind longest spelled (goes_on after next)

goes : (s rest : List ℕ) (tokens : List Token) (at : ℕ) → Read s tokens at rest → Goes 0 s tokens at rest
goes s rest tokens at source.nothing = done
goes s rest tokens at (source.separator {at = mid} text before here) =
    subst (λ (ts : List Token). Goes 0 s ts (mid + length text) rest) (append-nil tokens) (goes_on (goes s (text ++ rest) tokens mid before) (separator text here done))
goes s rest tokens at (source.token {tokens = front} {at = mid} text kind before longest spelled) =
    goes_on (goes s (text ++ rest) front mid before) (token text kind longest spelled done)

same_tokens : (k l : Kind) (from from' to to' : ℕ) (ts us : List Token) → k ≡ l → from ≡ from' → to ≡ to' → ts ≡ us
    → ◌≡◌ {A = List Token} (record { kind = k; from = from; to = to } ∷ ts) (record { kind = l; from = from'; to = to' } ∷ us)
same_tokens k l from from' to to' ts us kinds froms tos rest = rw (kinds, froms, tos, rest) refl

one_end : {at to at' to' : ℕ} {s s' end end' : List ℕ} {tokens tokens' : List Token} → Goes at s tokens to end → Goes at' s' tokens' to' end' → at ≡ at' → s ≡ s' → IsEnd end → IsEnd end'
    → (tokens ≡ tokens') × (to ≡ to') × (end ≡ end')
one_end done done same e stops stops' = (refl, same, e)
one_end done (separator text {rest = rest} here after) same e stops stops' = absurd (stops.no_separator text rest e here)
one_end done (token text kind {rest = rest} longest spelled after) same e stops stops' = absurd (stops.no_token text rest kind e longest spelled)
one_end (separator text {rest = rest} here after) done same e stops stops' = absurd (stops'.no_separator text rest (sym e) here)
one_end (token text kind {rest = rest} longest spelled after) done same e stops stops' = absurd (stops'.no_token text rest kind (sym e) longest spelled)
one_end {at = at} {at' = at'} (separator text {rest = rest} here after) (separator text' {rest = rest'} here' after') same e stops stops' =
    let both : (text ≡ text') × (rest ≡ rest') = one_separator text rest text' rest' e here here' in
    one_end after after' (let size = ap length both.0 in omega arith) both.1 stops stops'
one_end (separator text {rest = rest} here after) (token text' kind {rest = rest'} longest spelled after') same e stops stops' = absurd (separator_or_lexeme text rest text' rest' e here longest.lexeme)
one_end (token text kind {rest = rest} longest spelled after) (separator text' {rest = rest'} here' after') same e stops stops' = absurd (separator_or_lexeme text' rest' text rest (sym e) here' longest.lexeme)
one_end {at = at} {at' = at'} (token text kind {rest = rest} {tokens = tokens} longest spelled after) (token text' kind' {rest = rest'} {tokens = tokens'} longest' spelled' after') same e stops stops' =
    let both : (text ≡ text') × (rest ≡ rest') = one_lexeme text rest text' rest' e longest longest' in
    let place : at + length text ≡ at' + length text' = (let size = ap length both.0 in omega arith) in
    let kinds : kind ≡ kind' = spells_one text text' kind kind' spelled spelled' both.0 in
    let next = one_end after after' place both.1 stops stops' in
    let others : tokens ≡ tokens' = next.0 in
    (same_tokens kind kind' at at' (at + length text) (at' + length text') tokens tokens' kinds same place others, next.1, next.2)

-- ---- where nothing more is read

end_nil : IsEnd []
end_nil = record {
  no_separator = λ text rest e here. let some = separator_some text rest here in let size = ap length e ∙ length-append text rest in omega arith;
  no_token = λ text rest kind e longest spelled. let some = lexeme_some text longest.lexeme in let size = ap length e ∙ length-append text rest in omega arith;
}

fault_end : (at : ℕ) (s : List ℕ) (e : LexError) → IsFault at s e → IsEnd s
fault_end at s e (source.bad_byte no_separator no_lexeme) = record {
  no_separator = no_separator;
  no_token = λ text rest kind e longest spelled. no_lexeme text rest e longest.lexeme;
}
fault_end at s e (source.long_name word {rest = behind} longest run long) = record {
  no_separator = λ text rest e here. separator_or_lexeme text rest word behind (sym e) here longest.lexeme;
  no_token = λ text rest kind e longest' spelled. long_spells word text kind run long spelled (let both = one_lexeme word behind text rest e longest longest' in both.0);
}
fault_end at s e (source.bad_number word {rest = behind} longest run none) = record {
  no_separator = λ text rest e here. separator_or_lexeme text rest word behind (sym e) here longest.lexeme;
  no_token = λ text rest kind e longest' spelled. bad_spells word text kind run none spelled (let both = one_lexeme word behind text rest e longest longest' in both.0);
}

one_error : (at at' : ℕ) (s s' : List ℕ) (e e' : LexError) → IsFault at s e → IsFault at' s' e' → at ≡ at' → s ≡ s' → e ≡ e'
one_error at at' s s' e e' (source.bad_byte no_separator no_lexeme) (source.bad_byte no_separator' no_lexeme') place same = ap BadByte place
one_error at at' s s' e e' (source.bad_byte no_separator no_lexeme) (source.long_name word {rest = rest} longest run long) place same = absurd (no_lexeme word rest same longest.lexeme)
one_error at at' s s' e e' (source.bad_byte no_separator no_lexeme) (source.bad_number word {rest = rest} longest run none) place same = absurd (no_lexeme word rest same longest.lexeme)
one_error at at' s s' e e' (source.long_name word {rest = rest} longest run long) (source.bad_byte no_separator no_lexeme) place same = absurd (no_lexeme word rest (sym same) longest.lexeme)
one_error at at' s s' e e' (source.long_name word longest run long) (source.long_name word' longest' run' long') place same = ap LongName place
one_error at at' s s' e e' (source.long_name word {rest = rest} longest run long) (source.bad_number word' {rest = rest'} longest' run' none) place same =
    absurd (runs_apart word word' run run' (let both = one_lexeme word rest word' rest' same longest longest' in both.0))
one_error at at' s s' e e' (source.bad_number word {rest = rest} longest run none) (source.bad_byte no_separator no_lexeme) place same = absurd (no_lexeme word rest (sym same) longest.lexeme)
one_error at at' s s' e e' (source.bad_number word {rest = rest} longest run none) (source.long_name word' {rest = rest'} longest' run' long) place same =
    absurd (runs_apart word' word run' run (let both = one_lexeme word' rest' word rest (sym same) longest' longest in both.0))
one_error at at' s s' e e' (source.bad_number word longest run none) (source.bad_number word' longest' run' none') place same = ap BadNumber place

fault_some : (at : ℕ) (s : List ℕ) (e : LexError) → IsFault at s e → s ≡ [] → ⊥
fault_some at s e (source.bad_byte no_separator no_lexeme) empty = cc
fault_some at s e (source.long_name word {rest = rest} longest run long) empty =
    let some = lexeme_some word longest.lexeme in let size = sym (length-append word rest) ∙ ap length empty in omega arith
fault_some at s e (source.bad_number word {rest = rest} longest run none) empty =
    let some = lexeme_some word longest.lexeme in let size = sym (length-append word rest) ∙ ap length empty in omega arith

-- ---- what a source has

pub one_list : (s : List ℕ) (tokens others : List Token) → IsLexedFrom s tokens → IsLexedFrom s others → tokens ≡ others
one_list s tokens others first second = (one_end (goes s [] tokens (length s) first) (goes s [] others (length s) second) refl refl end_nil end_nil).0

pub list_or_fault : (s : List ℕ) (tokens : List Token) (e : LexError) → IsLexedFrom s tokens → IsFirstFault s e → ⊥
list_or_fault s tokens e lexed first =
    let both = one_end (goes s [] tokens (length s) lexed) (goes s first.rest first.tokens first.at first.before) refl refl end_nil (fault_end first.at first.rest e first.fault) in
    fault_some first.at first.rest e first.fault (sym both.2)

pub one_fault : (s : List ℕ) (e d : LexError) → IsFirstFault s e → IsFirstFault s d → e ≡ d
one_fault s e d first second =
    let both = one_end (goes s first.rest first.tokens first.at first.before) (goes s second.rest second.tokens second.at second.before) refl refl
    (fault_end first.at first.rest e first.fault) (fault_end second.at second.rest d second.fault) in
    one_error first.at second.at first.rest second.rest e d first.fault second.fault both.1 both.2

-- ---- what may be answered

-- an error that would be no fault is that of memory
pub memory_only : (s : List ℕ) (tokens : List Token) (e : LexError) → (e ≢ NoMemory → IsFirstFault s e) → IsLexedFrom s tokens → e ≡ NoMemory
memory_only s tokens NoMemory fault lexed = refl
memory_only s tokens (BadByte at) fault lexed = absurd (list_or_fault s tokens (BadByte at) lexed (fault (λ e. cc)))
memory_only s tokens (LongName at) fault lexed = absurd (list_or_fault s tokens (LongName at) lexed (fault (λ e. cc)))
memory_only s tokens (BadNumber at) fault lexed = absurd (list_or_fault s tokens (BadNumber at) lexed (fault (λ e. cc)))

-- and each other error is the first fault
pub fault_or_memory : (s : List ℕ) (e d : LexError) → (d ≢ NoMemory → IsFirstFault s d) → IsFirstFault s e → (d ≡ e) ⊎ (d ≡ NoMemory)
fault_or_memory s e NoMemory fault first = inr refl
fault_or_memory s e (BadByte at) fault first = inl (one_fault s (BadByte at) e (fault (λ e. cc)) first)
fault_or_memory s e (LongName at) fault first = inl (one_fault s (LongName at) e (fault (λ e. cc)) first)
fault_or_memory s e (BadNumber at) fault first = inl (one_fault s (BadNumber at) e (fault (λ e. cc)) first)

-- ---- what the error of a `?` says

pub only_passed : (r : Result (Vec Token Global) LexError) (e : LexError) (tokens : List Token) → IsErrAnd r (λ d. d ≡ e) → e ≡ NoMemory → IsOnly r tokens
only_passed (Ok found) e tokens is memory = absurd is
only_passed (Err d) e tokens is memory = is ∙ memory

pub refusal_passed : (r : Result (Vec Token Global) LexError) (d e : LexError) → IsErrAnd r (λ x. x ≡ d) → (d ≡ e) ⊎ (d ≡ NoMemory) → IsRefusal r e
refusal_passed (Ok found) d e is either = absurd is
refusal_passed (Err x) d e is either = elim either [ inl same ↦ inl (is ∙ same) | inr memory ↦ inr (is ∙ memory) ]
