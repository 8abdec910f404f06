-- The form of a sum is the sum.
use Rattle.std.proofs.Common.{◌≡◌, ◌∙◌, ℕ, zero, suc, ◌+◌, ◌*◌, ◌%◌, ◌^◌, ◌<◌, Bool, true, false, List, [], ◌∷◌, Option, Some, None, length, refl, ap, subst, arith}
use Rattle.std.specs.Prelude.{◌==◌, IsSome, option_map, replicate, slice_index, slice_set, if◌then◌else◌}
use Rattle.std.proofs.Math.Nat.{mod-mod}
use Rattle.base_trait.proofs.Lists.{number_told}
use Rattle.base_trait.proofs.Tests.{and_parts}
use Rattle.support_modular_rows.specs.Submodule.{Congruent, dot}
use Rattle.support_modular_rows.proofs.Growth.{greatest}
use Rattle.support_modular_rows.proofs.Spans.{cong_add, cong_mul}
use Rattle.semantics_values.specs.declared.entry.KeyAt.{KeyAt}
use Rattle.semantics_values.specs.declared.entry.KeyAt.TheVariants.{Whole, Rest, At}
use Rattle.semantics_values.specs.States.{State}
use Rattle.semantics.specs.Entries.{is_key}
use Rattle.domain_affine_element_laws.specs.Tracked.{number_at, valuation_of}
use Rattle.domain_affine_laws.specs.Opened.{is_cell}
use Rattle.analysis_query_laws.specs.Answers.{column_of, form_of, with_multiple}
use Rattle.analysis_query_laws.specs.Claims.{total}
use Rattle.analysis_query_laws.specs.Laws.{FormsAreSums}

key_told : (a b : KeyAt) → is_key a b ≡ true → a ≡ b
key_told Whole Whole h = refl
key_told Rest Rest h = refl
key_told (At j) (At k) h = ap At (number_told j k h)
key_told Whole Rest h = cc
key_told Whole (At k) h = cc
key_told Rest Whole h = cc
key_told Rest (At k) h = cc
key_told (At j) Whole h = cc
key_told (At j) Rest h = cc

module _ (s : State) where
  -- the place of a cell is one of the cells, and has its number
  column_at : (cells : List (ℕ × KeyAt)) (field : ℕ) (key : KeyAt) (j : ℕ) → column_of cells field key ≡ Some j → (j < length cells) × (slice_index (valuation_of cells s) j ≡ number_at s (field, key))
  column_at [] field key j e = cc
  column_at (cell ∷ cells) field key j e = by_test (is_cell cell field key) refl (column_of cells field key) e (λ i is. column_at cells field key i is)
    where
      by_test : (b : Bool) → is_cell cell field key ≡ b → (o : Option ℕ) → (if b then Some 0 else option_map suc o) ≡ Some j
          → ((i : ℕ) → o ≡ Some i → (i < length cells) × (slice_index (valuation_of cells s) i ≡ number_at s (field, key)))
          → (j < length (cell ∷ cells)) × (slice_index (valuation_of (cell ∷ cells) s) j ≡ number_at s (field, key))
      by_test true is o e more =
          let here : 0 ≡ j = cc in
          let parts = and_parts (cell.0 == field) (is_key cell.1 key) is in
          let one = number_told cell.0 field parts.0 in
          let two = key_told cell.1 key parts.1 in
          subst (λ i. (i < length (cell ∷ cells)) × (slice_index (valuation_of (cell ∷ cells) s) i ≡ number_at s (field, key))) here
          (omega arith, ap (λ f. number_at s (f, cell.1)) one ∙ ap (λ k. number_at s (field, k)) two)
      by_test false is None e more = cc
      by_test false is (Some i) e more =
          let next : suc i ≡ j = cc in
          let found = more i refl in
          subst (λ i. (i < length (cell ∷ cells)) × (slice_index (valuation_of (cell ∷ cells) s) i ≡ number_at s (field, key))) next (let lt = found.0 in omega (arith, lt), found.1)

-- ---- forms
zeros_many : (n : ℕ) → length {A = ℕ} (replicate n 0) ≡ n
zeros_many zero = refl
zeros_many (suc n) = let e = zeros_many n in omega arith

zeros_dot : (n : ℕ) (xs : List ℕ) → dot (replicate n 0) xs ≡ 0
zeros_dot zero xs = refl
zeros_dot (suc n) [] = refl
zeros_dot (suc n) (x ∷ xs) = let e = zeros_dot n xs in omega arith

set_many : (form : List ℕ) (j x : ℕ) → length (slice_set form j x) ≡ length form
set_many [] j x = refl
set_many (c ∷ form) zero x = refl
set_many (c ∷ form) (suc j) x = let e = set_many form j x in omega arith

-- so many more in a column
dot_set : (form xs : List ℕ) (j m : ℕ) → j < length form → j < length xs
    → Congruent (dot (slice_set form j ((slice_index form j + m) % 2 ^ 32)) xs) (dot form xs + m * slice_index xs j)
dot_set [] xs j m lt less = absurd (omega arith)
dot_set (c ∷ form) [] j m lt less = absurd (omega arith)
dot_set (c ∷ form) (x ∷ xs) zero m lt less =
    let rest = dot form xs in
    let one : (c + m) % 2 ^ 32 * x ≡ x * ((c + m) % 2 ^ 32) = omega arith in
    let two : x * (c + m) + rest ≡ c * x + rest + m * x = omega arith in
    ap (λ y. (y + rest) % 2 ^ 32) one
    ∙ cong_add greatest (x * ((c + m) % 2 ^ 32)) (x * (c + m)) rest rest (cong_mul greatest x ((c + m) % 2 ^ 32) (c + m) (mod-mod (c + m) (2 ^ 32))) refl
    ∙ ap (λ y. y % 2 ^ 32) two
dot_set (c ∷ form) (x ∷ xs) (suc j) m lt less =
    let later = dot_set form xs j m (omega arith) (omega arith) in
    let sum : c * x + (dot form xs + m * slice_index xs j) ≡ c * x + dot form xs + m * slice_index xs j = omega arith in
    cong_add greatest (c * x) (c * x) (dot (slice_set form j ((slice_index form j + m) % 2 ^ 32)) xs) (dot form xs + m * slice_index xs j) refl later ∙ ap (λ y. y % 2 ^ 32) sum

valuation_many : (cells : List (ℕ × KeyAt)) (s : State) → length (valuation_of cells s) ≡ length cells
valuation_many [] s = refl
valuation_many (cell ∷ cells) s = let e = valuation_many cells s in omega arith

module _ (cells : List (ℕ × KeyAt)) (s : State) where
  one_more : (form : List ℕ) (m field : ℕ) (key : KeyAt) (o : Option ℕ) → column_of cells field key ≡ o → IsSome o → length form ≡ length cells + 1
      → (length (with_multiple m o form) ≡ length cells + 1) × Congruent (dot (with_multiple m o form) (1 ∷ valuation_of cells s)) (dot form (1 ∷ valuation_of cells s) + m * number_at s (field, key))
  one_more form m field key None e some len = cc
  one_more form m field key (Some j) e some len =
      let found = column_at s cells field key j e in
      let lt = found.0 in
      let many = valuation_many cells s in
      let inside : suc j < length form = omega (arith, lt, len) in
      let within : suc j < length (1 ∷ valuation_of cells s) = omega (arith, lt, many) in (
        set_many form (suc j) ((slice_index form (suc j) + m) % 2 ^ 32) ∙ len,
        dot_set form (1 ∷ valuation_of cells s) (suc j) m inside within ∙ ap (λ n. (dot form (1 ∷ valuation_of cells s) + m * n) % 2 ^ 32) found.1,
      )

pub forms_are_sums : FormsAreSums
forms_are_sums cells c [] s all =
    let zeros = zeros_dot (length cells) (valuation_of cells s) in
    let many = zeros_many (length cells) in
    (omega (arith, many), (let e : c * 1 + dot (replicate (length cells) 0) (valuation_of cells s) ≡ c = omega (arith, zeros) in ap (λ x. x % 2 ^ 32) e))
forms_are_sums cells c (p ∷ parts) s all =
    let so_far = forms_are_sums cells c parts s all.1 in
    let form = form_of cells c parts in
    let more = one_more cells s form p.0 p.1 p.2 (column_of cells p.1 p.2) refl all.0 so_far.0 in
    let number = number_at s (p.1, p.2) in
    let turned : total s c parts + p.0 * number ≡ p.0 * number + total s c parts = omega arith in
    (more.0, more.1 ∙ cong_add greatest (dot form (1 ∷ valuation_of cells s)) (total s c parts) (p.0 * number) (p.0 * number) so_far.1 refl ∙ ap (λ x. x % 2 ^ 32) turned)
