-- Where the tokens of a source stand.
use Rattle.std.proofs.Common.{◌≡◌, ℕ, ◌+◌, ◌-◌, ◌≤◌, List, [], ◌++◌, length, take, drop, refl, ap, sym, ◌∙◌, arith, length-drop, length-append}
use Rattle.std.specs.List.{All, AllPairs, slice_range}
use Rattle.std.proofs.lemmas.List.Elements.{All-push}
use Rattle.std.proofs.lemmas.List.Quantifiers.{all_pairs_push}
use Rattle.std.proofs.Math.Seq.{take-append_seam}
use Rattle.syntax_lexer.specs.declared.token.Token.{Token}
use Rattle.syntax_lexer.specs.declared.token.Kind.{Kind}
use Rattle.syntax_lexer.specs.Lexeme.{IsLongest, Spells}
use Rattle.syntax_lexer.specs.Source as source
use Rattle.syntax_lexer.specs.Source.{Read, IsLexedFrom}
use Rattle.syntax_lexer.specs.Laws.{IsInPlace}
use Rattle.syntax_lexer.proofs.Steps.{rest_is}
use Rattle.syntax_lexer.proofs.Unique.{lexeme_some}

-- what is left is what stands from the place on
pub left_is : (s : List ℕ) (tokens : List Token) (at : ℕ) (rest : List ℕ) → Read s tokens at rest → rest ≡ drop at s
left_is s tokens at rest source.nothing = refl
left_is s tokens at rest (source.separator {at = mid} text before here) = sym (rest_is s text rest mid (sym (left_is s tokens mid (text ++ rest) before)))
left_is s tokens at rest (source.token {tokens = front} {at = mid} text kind before longest spelled) = sym (rest_is s text rest mid (sym (left_is s front mid (text ++ rest) before)))

place_within : (s text rest : List ℕ) (at : ℕ) → at ≤ length s → text ++ rest ≡ drop at s → at + length text ≤ length s
place_within s text rest at within e =
    let size : length text + length rest ≡ length s - at = sym (length-append text rest) ∙ ap length e ∙ length-drop at s in omega arith

pub within : (s : List ℕ) (tokens : List Token) (at : ℕ) (rest : List ℕ) → Read s tokens at rest → at ≤ length s
within s tokens at rest source.nothing = omega arith
within s tokens at rest (source.separator {at = mid} text before here) =
    place_within s text rest mid (within s tokens mid (text ++ rest) before) (left_is s tokens mid (text ++ rest) before)
within s tokens at rest (source.token {tokens = front} {at = mid} text kind before longest spelled) =
    place_within s text rest mid (within s front mid (text ++ rest) before) (left_is s front mid (text ++ rest) before)

-- the bytes of a span
slice_is : (s text rest : List ℕ) (at : ℕ) → text ++ rest ≡ drop at s → slice_range s at (at + length text) ≡ text
slice_is s text rest at e =
    let size : at + length text - at ≡ length text = omega arith in
    rw size (ap (take (length text)) (sym e) ∙ take-append_seam text rest)

token_in_place : (s text rest : List ℕ) (at : ℕ) (kind : Kind) → at ≤ length s → text ++ rest ≡ drop at s → IsLongest text rest → Spells text kind
    → IsInPlace s (record { kind = kind; from = at; to = at + length text })
token_in_place s text rest at kind before e longest spelled = record {
  some = (let some = lexeme_some text longest.lexeme in omega arith);
  within = place_within s text rest at before e;
  spelled = rw (slice_is s text rest at e) spelled;
}

all_in_place : (s : List ℕ) (tokens : List Token) (at : ℕ) (rest : List ℕ) → Read s tokens at rest → All (IsInPlace s) tokens
all_in_place s tokens at rest source.nothing = λ k d below. absurd (omega arith)
all_in_place s tokens at rest (source.separator {at = mid} text before here) = all_in_place s tokens mid (text ++ rest) before
all_in_place s tokens at rest (source.token {tokens = front} {at = mid} text kind before longest spelled) =
    All-push (IsInPlace s) front _ (all_in_place s front mid (text ++ rest) before)
    (token_in_place s text rest mid kind (within s front mid (text ++ rest) before) (left_is s front mid (text ++ rest) before) longest spelled)

-- each token ends before the place that is read to
all_before : (s : List ℕ) (tokens : List Token) (at : ℕ) (rest : List ℕ) → Read s tokens at rest → All (λ t. t.to ≤ at) tokens
all_before s tokens at rest source.nothing = λ k d below. absurd (omega arith)
all_before s tokens at rest (source.separator {at = mid} text before here) =
    λ k d below. let earlier = all_before s tokens mid (text ++ rest) before k d below in omega arith
all_before s tokens at rest (source.token {tokens = front} {at = mid} text kind before longest spelled) =
    All-push (λ t. t.to ≤ mid + length text) front _
    (λ k d below. let earlier = all_before s front mid (text ++ rest) before k d below in omega arith) (omega arith)

all_in_order : (s : List ℕ) (tokens : List Token) (at : ℕ) (rest : List ℕ) → Read s tokens at rest → AllPairs (λ t u. t.to ≤ u.from) tokens
all_in_order s tokens at rest source.nothing = λ i j d earlier below. absurd (omega arith)
all_in_order s tokens at rest (source.separator {at = mid} text before here) = all_in_order s tokens mid (text ++ rest) before
all_in_order s tokens at rest (source.token {tokens = front} {at = mid} text kind before longest spelled) =
    all_pairs_push (λ t u. t.to ≤ u.from) front _ (all_in_order s front mid (text ++ rest) before) (all_before s front mid (text ++ rest) before)

pub each_in_place : (s : List ℕ) (tokens : List Token) → IsLexedFrom s tokens → All (IsInPlace s) tokens
each_in_place s tokens lexed = all_in_place s tokens (length s) [] lexed

pub in_order : (s : List ℕ) (tokens : List Token) → IsLexedFrom s tokens → AllPairs (λ t u. t.to ≤ u.from) tokens
in_order s tokens lexed = all_in_order s tokens (length s) [] lexed
