-- The number that trial finds is the rank.
use Rattle.std.proofs.Common.{◌≡◌, ◌≢◌, ◌∙◌, ℕ, zero, suc, ◌+◌, ◌%◌, ◌^◌, ◌<◌, ◌≤◌, Bool, true, false, cond, IsTrue, List, [], ◌∷◌, length, ap, arith, inl, inr, mod-lt, pow_pos, refl, sym, subst}
use Rattle.std.specs.Prelude.{◌&&◌, ◌==◌, not}
use Rattle.std.proofs.lemmas.Bool.{cases_eq}
use Rattle.support_modular_rows.specs.Rank.{IsExponent, IsRank, LeadsFrom}
use Rattle.support_modular_rows.specs.Submodule.{IsMember}
use Rattle.support_modular_rows.proofs.Growth.{of}
use Rattle.support_modular_rows.proofs.Powers.{mod_power}
use Rattle.base_trait.specs.Lists.{Each}
use Rattle.base_trait.proofs.Lists.{number_told}
use Rattle.base_trait.proofs.Tests.{and_both, and_parts}
use Rattle.domain_affine_element_laws.specs.Membership.{all_below, is_member, some_below}
use Rattle.domain_affine_element_laws.specs.Ranks.{breaks, exponent, exponent_from, first_numbers, rank_of, some_vector}
use Rattle.domain_affine_element_laws.proofs.Membership.{all_at, all_from, members_are_told, some_found, some_from}

-- ---- vectors
vector_found : (n : ℕ) (test : List ℕ → Bool) → IsTrue (some_vector n test) → (x : List ℕ) × IsTrue (test x)
unfolding some_vector
vector_found zero test h = ([], h)
vector_found (suc n) test h =
    let first = some_found (2 ^ 32) (λ x. some_vector n (λ xs. test (x ∷ xs))) h in
    let rest = vector_found n (λ xs. test (first.0 ∷ xs)) first.2 in
    (first.0 ∷ rest.0, rest.1)

vector_from : (n : ℕ) (test : List ℕ → Bool) (x : List ℕ) → length x ≡ n → Each (λ y. y < 2 ^ 32) x → IsTrue (test x) → IsTrue (some_vector n test)
unfolding some_vector
vector_from zero test [] long small h = h
vector_from zero test (y ∷ x) long small h = cc
vector_from (suc n) test [] long small h = cc
vector_from (suc n) test (y ∷ x) long small h =
    let same : length x ≡ n = omega (arith, long) in
    some_from (2 ^ 32) y (λ y. some_vector n (λ xs. test (y ∷ xs))) small.0 (vector_from n (λ xs. test (y ∷ xs)) x same small.1 h)

-- ---- the first numbers
number_at : (n j : ℕ) (v : ℕ → ℕ) → j < n → of (first_numbers n v) j ≡ v j
unfolding first_numbers
number_at zero j v lt = absurd (omega (arith, lt))
number_at (suc n) zero v lt = refl
number_at (suc n) (suc j) v lt = number_at n j (λ i. v (suc i)) (omega (arith, lt))

numbers_length : (n : ℕ) (v : ℕ → ℕ) → length (first_numbers n v) ≡ n
unfolding first_numbers
numbers_length zero v = refl
numbers_length (suc n) v = ap suc (numbers_length n (λ i. v (suc i)))

-- numbers that are reduced modulo 2 ^ 32
abbrev reduced : ℕ → (ℕ → ℕ) → List ℕ
reduced n v = first_numbers n (λ j. v j % 2 ^ 32)

reduced_small : (n : ℕ) (v : ℕ → ℕ) → Each (λ y. y < 2 ^ 32) (reduced n v)
unfolding first_numbers
reduced_small zero v = tt
reduced_small (suc n) v = (mod-lt (v 0) (pow_pos 32), reduced_small n (λ j. v (suc j)))

not_true : (b : Bool) → (IsTrue b → ⊥) → IsTrue (not b)
not_true true h = absurd (h refl)
not_true false h = refl

not_both : (b : Bool) → IsTrue (not b) → IsTrue b → ⊥
not_both b h k = cc

module _ (k : ℕ) (rows : List (List ℕ)) (c : ℕ) (le : c ≤ k) where
  -- a member that breaks a power, and the test
  record Broken (w : ℕ) : Type 0 where
    pub x : List ℕ
    pub leads : LeadsFrom k rows c x
    pub no_multiple : of x c % 2 ^ (w + 1) ≢ 0

  broken : (w : ℕ) → IsTrue (some_vector (k + 1) (breaks k rows c w)) → Broken w
  broken w h =
      let found = vector_found (k + 1) (breaks k rows c w) h in
      let x = found.0 in
      let member = and_parts (is_member k rows x) (all_below c (λ j. of x j % 2 ^ 32 == 0) && not (of x c % 2 ^ (w + 1) == 0)) found.1 in
      let rest = and_parts (all_below c (λ j. of x j % 2 ^ 32 == 0)) (not (of x c % 2 ^ (w + 1) == 0)) member.1 in
      record {
        x = x;
        leads = ((members_are_told k rows x).0 member.0, λ j lt. number_told (of x j % 2 ^ 32) 0 (all_at c j (λ j. of x j % 2 ^ 32 == 0) rest.0 lt));
        no_multiple = λ zero_there. not_both (of x c % 2 ^ (w + 1) == 0) rest.1 (subst (λ z. IsTrue (z == 0)) (sym zero_there) refl);
      }

  module _ (w : ℕ) (less : w < 32) (x : List ℕ) (leads : LeadsFrom k rows c x) (other : of x c % 2 ^ (w + 1) ≢ 0) where
    abbrev y : List ℕ
    y = reduced (k + 1) (of x)

    entry : (j : ℕ) → j ≤ k → of y j ≡ of x j % 2 ^ 32
    entry j low = number_at (k + 1) j (λ j. of x j % 2 ^ 32) (omega (arith, low))

    again : (j n : ℕ) → j ≤ k → n ≤ 32 → of y j % 2 ^ n ≡ of x j % 2 ^ n
    again j n low few = ap (λ z. z % 2 ^ n) (entry j low) ∙ mod_power (of x j) n 32 few

    is_broken : IsTrue (some_vector (k + 1) (breaks k rows c w))
    is_broken =
        let member : IsMember k rows y = (leads.0.0, λ j low. again j 32 low (omega arith) ∙ leads.0.1 j low) in
        let zeros : IsTrue (all_below c (λ j. of y j % 2 ^ 32 == 0)) = all_from c (λ j. of y j % 2 ^ 32 == 0)
        (λ j lt. subst (λ z. IsTrue (z == 0)) (sym (again j 32 (omega (arith, lt, le)) (omega arith) ∙ leads.1 j lt)) refl) in
        let breaks_there : IsTrue (not (of y c % 2 ^ (w + 1) == 0)) = not_true (of y c % 2 ^ (w + 1) == 0)
        (λ h. other (sym (again c (w + 1) le (omega (arith, less))) ∙ number_told (of y c % 2 ^ (w + 1)) 0 h)) in
        vector_from (k + 1) (breaks k rows c w) y (numbers_length (k + 1) (λ j. of x j % 2 ^ 32)) (reduced_small (k + 1) (of x))
        (and_both (is_member k rows y) (all_below c (λ j. of y j % 2 ^ 32 == 0) && not (of y c % 2 ^ (w + 1) == 0)) ((members_are_told k rows y).1 member)
        (and_both (all_below c (λ j. of y j % 2 ^ 32 == 0)) (not (of y c % 2 ^ (w + 1) == 0)) zeros breaks_there))

  exponent_is : (d w : ℕ) → w + d ≡ 32 → ((x : List ℕ) → LeadsFrom k rows c x → of x c % 2 ^ w ≡ 0) → IsExponent k rows c (exponent_from k rows c d w)
  unfolding exponent_from
  exponent_is zero w e divides = record { limit = omega (arith, e); divides = divides; greatest = λ less. absurd (omega (arith, e, less)) }
  exponent_is (suc d) w e divides = by_test (some_vector (k + 1) (breaks k rows c w)) refl (λ next. exponent_is d (w + 1) (omega (arith, e)) next)
    where
      by_test : (b : Bool) → some_vector (k + 1) (breaks k rows c w) ≡ b
          → (((x : List ℕ) → LeadsFrom k rows c x → of x c % 2 ^ (w + 1) ≡ 0) → IsExponent k rows c (exponent_from k rows c d (w + 1)))
          → IsExponent k rows c (cond b w (exponent_from k rows c d (w + 1)))
      by_test true is more =
          let found = broken w is in
          record { limit = omega (arith, e); divides = divides; greatest = λ less. (found.x, found.leads, found.no_multiple) }
      by_test false is more = more (λ x leads. elim (cases_eq (of x c % 2 ^ (w + 1)) 0) [
        | inl zero_there ↦ zero_there
        | inr other ↦ let told = is_broken w (omega (arith, e)) x leads other in absurd cc
      ])

pub is_rank : (k : ℕ) (rows : List (List ℕ)) → IsRank k rows (rank_of k rows)
is_rank k rows = (
  first_numbers (k + 1) (exponent k rows),
  numbers_length (k + 1) (exponent k rows),
  λ c le. subst (IsExponent k rows c) (sym (number_at (k + 1) c (exponent k rows) (omega (arith, le))))
      (exponent_is k rows c le 32 0 refl (λ x leads. let small : of x c % 2 ^ 0 < 1 = mod-lt (of x c) (omega arith) in omega (arith, small))),
  refl,
)
