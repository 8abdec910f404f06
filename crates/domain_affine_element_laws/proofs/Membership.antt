-- The test of membership tells the members.
use Rattle.std.proofs.Common.{◌≡◌, ℕ, zero, suc, ◌+◌, ◌*◌, ◌%◌, ◌^◌, ◌<◌, Bool, false, IsTrue, List, [], ◌∷◌, get_or, length, refl, sym, ap, ◌∙◌, subst, arith, inl, inr, mod-lt, pow_pos}
use Rattle.std.specs.Prelude.{◌==◌}
use Rattle.std.proofs.lemmas.Bool.{cases_eq}
use Rattle.support_modular_rows.specs.Laws.{IsWithin}
use Rattle.support_modular_rows.specs.Reduction.{Span}
use Rattle.support_modular_rows.specs.Submodule.{IsMember}
use Rattle.support_modular_rows.proofs.Growth.{greatest, of}
use Rattle.support_modular_rows.proofs.Least.{rows_within}
use Rattle.support_modular_rows.proofs.Closure.{append_joins, rows_are_members}
use Rattle.support_modular_rows.proofs.Members.{member_spans, spans_member}
use Rattle.support_modular_rows.proofs.Powers.{mod_power}
use Rattle.support_modular_rows.proofs.Spans.{Alike, cong_add, cong_mul, span_alike}
use Rattle.base_trait.specs.Lists.{Each}
use Rattle.base_trait.proofs.Lists.{all_told, each_at, each_from, number_told}
use Rattle.base_trait.proofs.Tests.{and_both, and_parts, not_both, or_left, or_right, or_sorted}
use Rattle.domain_affine_element_laws.specs.Laws.{AbsorbsWithin, MembersAreTold}
use Rattle.domain_affine_element_laws.specs.Membership.{all_below, are_members, comes_to_zero, is_member, some_below}

-- ---- tests of the numbers below a bound
pub some_found : (n : ℕ) (test : ℕ → Bool) → IsTrue (some_below n test) → (i : ℕ) × (i < n) × IsTrue (test i)
unfolding some_below
some_found zero test h = cc
some_found (suc n) test h = elim (or_sorted (test n) (some_below n test) h) [
  | inl here ↦ (n, omega arith, here)
  | inr more ↦ let found = some_found n test more in let less = found.1 in (found.0, omega (arith, less), found.2)
]

pub some_from : (n i : ℕ) (test : ℕ → Bool) → i < n → IsTrue (test i) → IsTrue (some_below n test)
unfolding some_below
some_from zero i test lt h = absurd (omega (arith, lt))
some_from (suc n) i test lt h = elim (cases_eq i n) [
  | inl same ↦ or_left (test n) (some_below n test) (subst (λ j. IsTrue (test j)) same h)
  | inr other ↦ or_right (test n) (some_below n test) (some_from n i test (omega (arith, lt, other)) h)
]

pub all_at : (n i : ℕ) (test : ℕ → Bool) → IsTrue (all_below n test) → i < n → IsTrue (test i)
unfolding all_below
all_at zero i test h lt = absurd (omega (arith, lt))
all_at (suc n) i test h lt = elim (cases_eq i n) [
  | inl same ↦ subst (λ j. IsTrue (test j)) (sym same) (and_parts (test n) (all_below n test) h).0
  | inr other ↦ all_at n i test (and_parts (test n) (all_below n test) h).1 (omega (arith, lt, other))
]

pub all_from : (n : ℕ) (test : ℕ → Bool) → ((i : ℕ) → i < n → IsTrue (test i)) → IsTrue (all_below n test)
unfolding all_below
all_from zero test h = refl
all_from (suc n) test h = and_both (test n) (all_below n test) (h n (omega arith)) (all_from n test (λ i lt. h i (omega (arith, lt))))

-- ---- the span
module _ (k : ℕ) where
  spans : (rows : List (List ℕ)) (v : ℕ → ℕ) → IsTrue (comes_to_zero k rows v) → Span greatest (k + 1) rows v
  spans [] v h = λ j lt. number_told (v j % 2 ^ 32) 0 (all_at (k + 1) j (λ j. v j % 2 ^ 32 == 0) h lt)
  spans (r ∷ rows) v h =
      let found = some_found (2 ^ 32) (λ c. comes_to_zero k rows (λ j. v j + c * of r j)) h in
      (found.0, spans rows (λ j. v j + found.0 * of r j) found.2)

  spanned : (rows : List (List ℕ)) (v : ℕ → ℕ) → Span greatest (k + 1) rows v → IsTrue (comes_to_zero k rows v)
  spanned [] v h = all_from (k + 1) (λ j. v j % 2 ^ 32 == 0) (λ j lt. subst (λ z. IsTrue (z == 0)) (sym (h j lt)) refl)
  spanned (r ∷ rows) v (c, h) =
      some_from (2 ^ 32) (c % 2 ^ 32) (λ c. comes_to_zero k rows (λ j. v j + c * of r j)) (mod-lt c (pow_pos 32))
      (spanned rows (λ j. v j + c % 2 ^ 32 * of r j) (span_alike greatest (k + 1) rows (λ j. v j + c * of r j) (λ j. v j + c % 2 ^ 32 * of r j) same h))
    where
      same : Alike greatest (k + 1) (λ j. v j + c * of r j) (λ j. v j + c % 2 ^ 32 * of r j)
      same j lt =
          let turn : c * of r j ≡ of r j * c = omega arith in
          let back : of r j * (c % 2 ^ 32) ≡ c % 2 ^ 32 * of r j = omega arith in
          cong_add greatest (v j) (v j) (c * of r j) (c % 2 ^ 32 * of r j) refl
          (ap (λ z. z % 2 ^ 32) turn ∙ cong_mul greatest (of r j) c (c % 2 ^ 32) (sym (mod_power c 32 32 (omega arith))) ∙ ap (λ z. z % 2 ^ 32) back)

pub members_are_told : MembersAreTold
members_are_told k rows x = (λ h. member_spans k rows x (spans k rows (of x) h), λ h. spanned k rows (of x) (spans_member k rows x h))

-- ---- rows that are members
pub each_within : (k : ℕ) (rows others : List (List ℕ)) → Each (λ r. IsMember k rows r) others → IsWithin k others rows
each_within k rows others h = rows_within k others rows (λ i d lt. at others i d h lt)
  where
    at : (rs : List (List ℕ)) (i : ℕ) (d : List ℕ) → Each (λ r. IsMember k rows r) rs → i < length rs → IsMember k rows (get_or rs i d)
    at [] i d h lt = absurd (omega (arith, lt))
    at (r ∷ rs) zero d h lt = h.0
    at (r ∷ rs) (suc i) d h lt = at rs i d h.1 (omega (arith, lt))

pub within_each : (k : ℕ) (rows others : List (List ℕ)) → IsWithin k others rows → Each (λ r. IsMember k rows r) others
within_each k rows [] h = tt
within_each k rows (r ∷ others) h =
    (h r (rows_are_members k [] others r), within_each k rows others (λ x member. h x ((append_joins k (r ∷ []) others).right x member)))

pub each_members : (k : ℕ) (rows : List (List ℕ)) → Each (λ r. IsMember k rows r) rows
each_members k rows = within_each k rows rows (λ x member. member)

pub absorbs_within : AbsorbsWithin
absorbs_within k rows others = (
  λ h. each_within k rows others
      (each_from (λ r. IsMember k rows r) others (λ r a. (members_are_told k rows r).0 (each_at (λ r. IsTrue (is_member k rows r)) others r ((all_told (is_member k rows) others).0 h) a))),
  λ h. (all_told (is_member k rows) others).1
      (each_from (λ r. IsTrue (is_member k rows r)) others (λ r a. (members_are_told k rows r).1 (each_at (λ r. IsMember k rows r) others r (within_each k rows others h) a))),
)

-- where the test fails, one of the others is no member
pub some_outside : (k : ℕ) (rows others : List (List ℕ)) → are_members k rows others ≡ false → (x : List ℕ) × IsMember k others x × (IsMember k rows x → ⊥)
some_outside k rows [] e = cc
some_outside k rows (r ∷ others) e = elim (not_both (is_member k rows r) (are_members k rows others) e) [
  | inl here ↦ (r, rows_are_members k [] others r, λ member. let told = (members_are_told k rows r).1 member in cc)
  | inr more ↦ let found = some_outside k rows others more in (found.0, (append_joins k (r ∷ []) others).right found.0 found.1, found.2)
]
