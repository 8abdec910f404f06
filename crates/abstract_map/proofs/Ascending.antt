-- Ascending lists of entries.
use Rattle.std.proofs.Common.{◌≡◌, ℕ, ◌+◌, ◌<◌, ◌≤◌, Bool, true, false, zero, suc, List, [], ◌∷◌, Some, None, map, length, get_or, ltb, eqb, cond, refl, arith, IsTrue, ◌⊎◌, inl, inr}
use Rattle.std.specs.Prelude.{unwrap_or}
use Rattle.std.proofs.lemmas.Bool.Decides.{nat_tests}
use Rattle.base_trait.specs.Lists.{IsAscendingFrom, Each}
use Rattle.base_trait.proofs.Tests.{decide}
use Rattle.abstract_map_laws.specs.declared.cell.AbstractCell.{AbstractCell}
use Rattle.abstract_map_laws.specs.Maps.{cell_in}
use Rattle.abstract_cell_tree.specs.Entries.{listed_at}

-- one number is below another, or is the same, or is above
pub sort_numbers : (m n : ℕ) → (m < n) ⊎ ((m ≡ n) ⊎ (n < m))
sort_numbers m n = first (decide (ltb m n)) (decide (ltb n m))
  where
    first : IsTrue (ltb m n) ⊎ (ltb m n ≡ false) → IsTrue (ltb n m) ⊎ (ltb n m ≡ false) → (m < n) ⊎ ((m ≡ n) ⊎ (n < m))
    first (inl a) b = inl (grind (arith, nat_tests))
    first (inr a) (inl b) = inr (inr (grind (arith, nat_tests)))
    first (inr a) (inr b) = inr (inl (grind (arith, nat_tests)))

below_is : (m n : ℕ) → m < n → ltb m n ≡ true
below_is m n h = grind (arith, nat_tests)

below_not : (m n : ℕ) → n ≤ m → ltb m n ≡ false
below_not m n h = grind (arith, nat_tests)

apart_is : (m n : ℕ) → (m ≡ n → ⊥) → eqb m n ≡ false
apart_is m n h = grind (arith, nat_tests)

same_is : (m n : ℕ) → m ≡ n → eqb m n ≡ true
same_is m n h = grind (arith, nat_tests)

module _ {A : Type 0} where
  -- what holds of each holds at a place
  pub each_index : (P : A → Type 0) (xs : List A) (i : ℕ) (d : A) → Each P xs → i < length xs → P (get_or xs i d)
  each_index P [] i d h l = absurd (omega arith)
  each_index P (x ∷ xs) zero d h l = h.0
  each_index P (x ∷ xs) (suc i) d h l = each_index P xs i d h.1 (omega arith)

module _ {A : Type 0} where
  -- ---- what is listed
  pub listed_past : (low k : ℕ) (es : List (ℕ × A)) → k < low → IsAscendingFrom low (map (λ e. e.0) es) → None ≡ listed_at k es
  listed_past low k [] l h = refl
  listed_past low k (e ∷ es) l h = let first = h.0 in rw (apart_is e.0 k (λ same. absurd (omega (arith, same, first)))) (listed_past (e.0 + 1) k es (omega (arith, first)) h.1)

-- ---- the cell at a key
module _ {W N : Type 0} where
  pub cell_or : (rest : AbstractCell W N) (es : List (ℕ × AbstractCell W N)) (k : ℕ) → unwrap_or (listed_at k es) rest ≡ cell_in rest es k
  cell_or rest [] k = refl
  cell_or rest (e ∷ es) k = by_test (eqb e.0 k) (cell_or rest es k)
    where
      by_test : (b : Bool) → unwrap_or (listed_at k es) rest ≡ cell_in rest es k → unwrap_or (cond b (Some e.1) (listed_at k es)) rest ≡ cond b e.1 (cell_in rest es k)
      by_test true later = refl
      by_test false later = later
