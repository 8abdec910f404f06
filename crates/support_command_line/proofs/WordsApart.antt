-- The last positional words, apart from those before them.
use native.Mathlib.Numerals.{unary_clauses}
use Rattle.std.proofs.Common.{◌≡◌, ℕ, ◌-◌, ◌<◌, ◌≤◌, List, [], ◌∷◌, Bor, length, get_or, take, refl, ap, arith, ◌∙◌, suc, sym}
use Rattle.std.specs.Prelude.{Option, Some, None, option_map}
use Rattle.support_command_line.specs.CommandLine.{GivenWords}
use Rattle.support_command_line.specs.Giving.{◌>>=◌}
use Rattle.support_command_line.specs.Requests.{AnalyseRequest, CheckRequest, ClaimsRequest, claims, slice}
use Rattle.support_command_line.specs.Views.{borrowed}
use Rattle.support_command_line.specs.Words.{analyse_of, check_from, check_of, claims_of, slice_from, slice_of}

abbrev pub with_table : AnalyseRequest → List ℕ → CheckRequest
with_table analysis table = record { analysis = analysis; table = table }

abbrev pub with_claims : CheckRequest → List ℕ → ClaimsRequest
with_claims check text = record { check = check; claims = text }

less_two : (n : ℕ) → suc (suc n) - 2 ≡ n
less_two n = omega arith

module _ (given : GivenWords) (d : Bor (List ℕ)) where
  -- a table is what comes before it, and its own word
  pub check_ends : (words : List (Bor (List ℕ))) → 1 ≤ length words
      → check_of given (borrowed words) ≡ (analyse_of given (borrowed (take (length words - 1) words)) >>= λ (a : AnalyseRequest). Some (with_table a (get_or words (length words - 1) d).now))
  unfolding check_of check_from analyse_of
  check_ends [] some = absurd (omega arith)
  check_ends (a ∷ []) some = refl
  check_ends (a ∷ b ∷ []) some = refl
  check_ends (a ∷ b ∷ e ∷ []) some = refl
  check_ends (a ∷ b ∷ e ∷ f ∷ []) some = refl
  check_ends (a ∷ b ∷ e ∷ f ∷ g ∷ words) some = simp unary_clauses refl

  pub claims_ends : (words : List (Bor (List ℕ))) → 1 ≤ length words
      → claims_of given (borrowed words) ≡ (check_of given (borrowed (take (length words - 1) words)) >>= λ (a : CheckRequest). Some (with_claims a (get_or words (length words - 1) d).now))
  unfolding claims_of check_of
  claims_ends [] some = absurd (omega arith)
  claims_ends (a ∷ []) some = refl
  claims_ends (a ∷ b ∷ []) some = refl
  claims_ends (a ∷ b ∷ e ∷ []) some = refl
  claims_ends (a ∷ b ∷ e ∷ f ∷ []) some = refl
  claims_ends (a ∷ b ∷ e ∷ f ∷ g ∷ []) some = refl
  claims_ends (a ∷ b ∷ e ∷ f ∷ g ∷ h ∷ words) some = simp unary_clauses refl

  pub slice_ends : (words : List (Bor (List ℕ))) → 2 ≤ length words
      → slice_of given (borrowed words) ≡ (check_of given (borrowed (take (length words - 2) words)) >>= λ (a : CheckRequest). slice_from a (get_or words (length words - 2) d).now (get_or words (length words - 1) d).now)
  unfolding slice_of check_of
  slice_ends [] some = absurd (omega arith)
  slice_ends (a ∷ []) some = absurd (omega arith)
  slice_ends (a ∷ b ∷ []) some = refl
  slice_ends (a ∷ b ∷ e ∷ []) some = refl
  slice_ends (a ∷ b ∷ e ∷ f ∷ []) some = refl
  slice_ends (a ∷ b ∷ e ∷ f ∷ g ∷ []) some = refl
  slice_ends (a ∷ b ∷ e ∷ f ∷ g ∷ h ∷ []) some = refl
  slice_ends (a ∷ b ∷ e ∷ f ∷ g ∷ h ∷ i ∷ words) some = rw (less_two (length (e ∷ f ∷ g ∷ h ∷ i ∷ words))) refl

  no_table_empty : (words : List (Bor (List ℕ))) → length words < 1 → check_of given (borrowed words) ≡ None
  unfolding check_of
  no_table_empty [] none = refl
  no_table_empty (a ∷ words) none = absurd (omega arith)

  no_claims_empty : (words : List (Bor (List ℕ))) → length words < 1 → option_map claims (claims_of given (borrowed words)) ≡ None
  unfolding claims_of
  no_claims_empty [] none = refl
  no_claims_empty (a ∷ words) none = absurd (omega arith)

  no_slice_few : (words : List (Bor (List ℕ))) → length words < 2 → option_map slice (slice_of given (borrowed words)) ≡ None
  unfolding slice_of
  no_slice_few [] few = refl
  no_slice_few (a ∷ []) few = refl
  no_slice_few (a ∷ b ∷ words) few = absurd (omega arith)

  -- by what comes before the last words
  module _ (words : List (Bor (List ℕ))) where
    pub table_of : (a : AnalyseRequest) → 1 ≤ length words → analyse_of given (borrowed (take (length words - 1) words)) ≡ Some a → check_of given (borrowed words) ≡ Some (with_table a (get_or words (length words - 1) d).now)
    table_of a some is = check_ends words some ∙ ap (λ (found : Option AnalyseRequest). found >>= λ a. Some (with_table a (get_or words (length words - 1) d).now)) is

    pub no_table : 1 ≤ length words → analyse_of given (borrowed (take (length words - 1) words)) ≡ None → check_of given (borrowed words) ≡ None
    no_table some is = check_ends words some ∙ ap (λ (found : Option AnalyseRequest). found >>= λ a. Some (with_table a (get_or words (length words - 1) d).now)) is

    pub no_table_words : length words < 1 → check_of given (borrowed words) ≡ None
    no_table_words none = no_table_empty words none

  module _ (words own : List (Bor (List ℕ))) (same : words ≡ own) where
    own_claims : option_map claims (claims_of given (borrowed own)) ≡ option_map claims (claims_of given (borrowed words))
    own_claims = ap (λ words. option_map claims (claims_of given (borrowed words))) (sym same)

    own_slice : option_map slice (slice_of given (borrowed own)) ≡ option_map slice (slice_of given (borrowed words))
    own_slice = ap (λ words. option_map slice (slice_of given (borrowed words))) (sym same)

    pub claims_of_table : (a : CheckRequest) → 1 ≤ length words → check_of given (borrowed (take (length words - 1) words)) ≡ Some a
        → option_map claims (claims_of given (borrowed own)) ≡ Some (claims (with_claims a (get_or words (length words - 1) d).now))
    claims_of_table a some is = own_claims ∙ ap (option_map claims) (claims_ends words some ∙ ap (λ (found : Option CheckRequest). found >>= λ a. Some (with_claims a (get_or words (length words - 1) d).now)) is)

    pub no_claims : 1 ≤ length words → check_of given (borrowed (take (length words - 1) words)) ≡ None → option_map claims (claims_of given (borrowed own)) ≡ None
    no_claims some is = own_claims ∙ ap (option_map claims) (claims_ends words some ∙ ap (λ (found : Option CheckRequest). found >>= λ a. Some (with_claims a (get_or words (length words - 1) d).now)) is)

    pub no_claims_words : length words < 1 → option_map claims (claims_of given (borrowed own)) ≡ None
    no_claims_words none = own_claims ∙ no_claims_empty words none

    pub slice_of_table : (a : CheckRequest) → 2 ≤ length words → check_of given (borrowed (take (length words - 2) words)) ≡ Some a
        → option_map slice (slice_of given (borrowed own)) ≡ option_map slice (slice_from a (get_or words (length words - 2) d).now (get_or words (length words - 1) d).now)
    slice_of_table a some is = own_slice ∙ ap (option_map slice) (slice_ends words some ∙ ap (λ (found : Option CheckRequest). found >>= λ a. slice_from a (get_or words (length words - 2) d).now (get_or words (length words - 1) d).now) is)

    pub no_slice : 2 ≤ length words → check_of given (borrowed (take (length words - 2) words)) ≡ None → option_map slice (slice_of given (borrowed own)) ≡ None
    no_slice some is = own_slice ∙ ap (option_map slice) (slice_ends words some ∙ ap (λ (found : Option CheckRequest). found >>= λ a. slice_from a (get_or words (length words - 2) d).now (get_or words (length words - 1) d).now) is)

    pub no_slice_words : length words < 2 → option_map slice (slice_of given (borrowed own)) ≡ None
    no_slice_words few = own_slice ∙ no_slice_few words few
