-- One more separator or token is read.
use Rattle.std.proofs.Common.{◌≡◌, ℕ, ◌+◌, ◌-◌, ◌≤◌, List, [], ◌∷◌, ◌++◌, length, take, drop, ap, sym, ◌∙◌, subst, arith, take-append-drop, length-take, length-drop, length-append, drop-drop}
use Rattle.syntax_lexer.specs.declared.token.Token.{Token}
use Rattle.syntax_lexer.specs.declared.lex_error.LexError.{LexError}
use Rattle.syntax_lexer.specs.Scanning.{IsTokenAt}
use Rattle.syntax_lexer.specs.Source as source
use Rattle.syntax_lexer.specs.Source.{IsSeparator, Read, IsFault, IsFirstFault, IsLexedFrom}
use Rattle.std.proofs.Math.Seq.{drop-append_seam}
use Rattle.std.proofs.lemmas.List.{take_all, drop_all}

-- the slice from a place on
pub left : (s : List ℕ) (at : ℕ) → take (length s - at) (drop at s) ≡ drop at s
left s at = take_all (length s - at) (drop at s) (rw length-drop (omega arith))

pub separator_read : (s : List ℕ) (tokens : List Token) (at len : ℕ) (rest : List ℕ) → rest ≡ drop at s → Read s tokens at (drop at s) → IsSeparator (take len rest) (drop len rest) → len ≤ length rest
    → Read s tokens (at + len) (drop (at + len) s)
separator_read s tokens at len rest is read separator within =
    let size : length (take len rest) ≡ len = rw length-take (omega arith) in
    let before : Read s tokens at (take len rest ++ drop len rest) = subst (λ (x : List ℕ). Read s tokens at x) (sym (take-append-drop len rest ∙ is)) read in
    let after : Read s tokens (at + length (take len rest)) (drop len rest) = source.separator (take len rest) before separator in
    let behind : drop len rest ≡ drop (at + len) s = ap (drop len) is ∙ drop-drop len at s in
    rw (← behind) (rw size at after)

pub separator_within : (s : List ℕ) (at len : ℕ) (rest : List ℕ) → rest ≡ drop at s → at ≤ length s → len ≤ length rest → at + len ≤ length s
separator_within s at len rest is within fits =
    let size : length rest ≡ length s - at = ap length is ∙ length-drop at s in omega arith

-- the bytes behind a part of what is left
pub rest_is : (s text rest : List ℕ) (at : ℕ) → drop at s ≡ text ++ rest → drop (at + length text) s ≡ rest
rest_is s text rest at split = sym (drop-drop (length text) at s) ∙ ap (drop (length text)) split ∙ drop-append_seam text rest

pub token_read : (s : List ℕ) (tokens : List Token) (at : ℕ) (t : Token) (rest : List ℕ) → rest ≡ drop at s → Read s tokens at (drop at s) → IsTokenAt at rest t
    → Read s (tokens ++ t ∷ []) t.to (drop t.to s)
token_read s tokens at t rest is read here =
    let split : drop at s ≡ here.text ++ here.rest = sym is ∙ here.split in
    let before : Read s tokens at (here.text ++ here.rest) = subst (λ (x : List ℕ). Read s tokens at x) split read in
    let made : Token = record { kind = t.kind; from = at; to = at + length here.text } in
    let after : Read s (tokens ++ made ∷ []) (at + length here.text) here.rest = source.token here.text t.kind before here.longest here.spelled in
    let behind : drop (at + length here.text) s ≡ here.rest = rest_is s here.text here.rest at split in
    let same : made ≡ t = ap (λ (k : ℕ). let u : Token = record { kind = t.kind; from = k; to = at + length here.text } in u) (sym here.from)
    ∙ ap (λ (k : ℕ). let u : Token = record { kind = t.kind; from = t.from; to = k } in u) (sym here.to) in
    subst (λ (u : Token). Read s (tokens ++ u ∷ []) u.to (drop u.to s)) same (rw behind after)

pub token_within : (s : List ℕ) (at : ℕ) (t : Token) (rest : List ℕ) → rest ≡ drop at s → at ≤ length s → IsTokenAt at rest t → t.to ≤ length s
token_within s at t rest is within here =
    let size : length s - at ≡ length here.text + length here.rest = sym (length-drop at s) ∙ ap length (sym is ∙ here.split) ∙ length-append here.text here.rest in
    let end = here.to in
    omega arith

pub first_fault : (s : List ℕ) (tokens : List Token) (at : ℕ) (rest : List ℕ) (e : LexError) → rest ≡ drop at s → Read s tokens at (drop at s) → IsFault at rest e → IsFirstFault s e
first_fault s tokens at rest e is read fault = record {
  tokens = tokens;
  at = at;
  rest = rest;
  before = subst (λ (x : List ℕ). Read s tokens at x) (sym is) read;
  fault = fault;
}

-- at the end all is read
pub all_read : (s : List ℕ) (tokens : List Token) (at : ℕ) → at ≤ length s → length s ≤ at → Read s tokens at (drop at s) → IsLexedFrom s tokens
all_read s tokens at within end read =
    let place : at ≡ length s = omega arith in
    let none : drop at s ≡ [] = drop_all at s end in
    subst (λ (k : ℕ). Read s tokens k []) place (rw none at read)
