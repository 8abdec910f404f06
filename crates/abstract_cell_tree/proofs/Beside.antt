-- Ascending entries side by side.
use Rattle.std.proofs.Common.{◌≡◌, ℕ, ◌+◌, ◌-◌, ◌<◌, ◌≤◌, Bool, true, false, zero, suc, take, List, [], ◌∷◌, ◌++◌, Some, None, length, ltb, eqb, cond, refl, sym, ap, ◌∙◌, arith, ◌⊎◌, inl, inr, IsTrue}
use Rattle.std.proofs.Math.Seq.{take-append-add}
use Rattle.std.proofs.lemmas.Bool.Decides.{nat_tests}
use Rattle.base_trait.proofs.Tests.{decide}
use Rattle.abstract_cell_tree.specs.Entries.{listed_at, put, removed, Between}

-- ---- tests of numbers
pub sort_numbers : (m n : ℕ) → (m < n) ⊎ ((m ≡ n) ⊎ (n < m))
sort_numbers m n = first (decide (ltb m n)) (decide (ltb n m))
  where
    first : IsTrue (ltb m n) ⊎ (ltb m n ≡ false) → IsTrue (ltb n m) ⊎ (ltb n m ≡ false) → (m < n) ⊎ ((m ≡ n) ⊎ (n < m))
    first (inl a) b = inl (grind (arith, nat_tests))
    first (inr a) (inl b) = inr (inr (grind (arith, nat_tests)))
    first (inr a) (inr b) = inr (inl (grind (arith, nat_tests)))

below_is : (m n : ℕ) → m < n → ltb m n ≡ true
below_is m n h = grind (arith, nat_tests)

below_not : (m n : ℕ) → n ≤ m → ltb m n ≡ false
below_not m n h = grind (arith, nat_tests)

apart_below : (m n : ℕ) → m < n → eqb m n ≡ false
apart_below m n h = grind (arith, nat_tests)

apart_above : (m n : ℕ) → n < m → eqb m n ≡ false
apart_above m n h = grind (arith, nat_tests)

same_is : (m n : ℕ) → m ≡ n → eqb m n ≡ true
same_is m n h = grind (arith, nat_tests)

module _ {A : Type 0} where
  -- ---- bounds
  pub between_order : (a b : ℕ) (es : List (ℕ × A)) → Between a b es → a ≤ b
  between_order a b [] h = h
  between_order a b (e ∷ es) h = let first = h.0 in let later = between_order (e.0 + 1) b es h.1 in omega (arith, first, later)

  pub wider : (a b c d : ℕ) (es : List (ℕ × A)) → c ≤ a → b ≤ d → Between a b es → Between c d es
  wider a b c d [] l r h = omega (arith, h)
  wider a b c d (e ∷ es) l r h = let first = h.0 in (omega (arith, first), wider (e.0 + 1) b (e.0 + 1) d es (omega arith) r h.1)

  pub side_by_side : (a b c : ℕ) (l r : List (ℕ × A)) → Between a b l → Between b c r → Between a c (l ++ r)
  side_by_side a b c [] r h g = wider b c a c r h (omega arith) g
  side_by_side a b c (e ∷ l) r h g = (h.0, side_by_side (e.0 + 1) b c l r h.1 g)

  -- ---- what is listed
  listed_none : (k m c : ℕ) (r : List (ℕ × A)) → k < m → Between m c r → listed_at k r ≡ None
  listed_none k m c [] l h = refl
  listed_none k m c (e ∷ r) l h = let first = h.0 in rw (apart_above e.0 k (omega (arith, first))) (listed_none k (e.0 + 1) c r (omega (arith, first)) h.1)

  pub listed_left : (k m c : ℕ) (l r : List (ℕ × A)) → k < m → Between m c r → listed_at k (l ++ r) ≡ listed_at k l
  listed_left k m c [] r less h = listed_none k m c r less h
  listed_left k m c (e ∷ l) r less h = ap (λ o. cond (eqb e.0 k) (Some e.1) o) (listed_left k m c l r less h)

  pub listed_right : (k a m : ℕ) (l r : List (ℕ × A)) → m ≤ k → Between a m l → listed_at k (l ++ r) ≡ listed_at k r
  listed_right k a m [] r more h = refl
  listed_right k a m (e ∷ l) r more h = let last = between_order (e.0 + 1) m l h.1 in rw (apart_below e.0 k (omega (arith, last))) (listed_right k (e.0 + 1) m l r more h.1)

  -- ---- what is put
  pub put_first : (k : ℕ) (x : A) (m c : ℕ) (r : List (ℕ × A)) → k < m → Between m c r → put k x r ≡ (k, x) ∷ r
  put_first k x m c [] l h = refl
  put_first k x m c (e ∷ r) l h = let first = h.0 in rw (below_is k e.0 (omega (arith, first))) refl

  pub put_left : (k : ℕ) (x : A) (m c : ℕ) (l r : List (ℕ × A)) → k < m → Between m c r → put k x (l ++ r) ≡ put k x l ++ r
  put_left k x m c [] r less h = put_first k x m c r less h
  put_left k x m c (e ∷ l) r less h = by_tests (ltb k e.0) (eqb k e.0) (put_left k x m c l r less h)
    where
      by_tests : (a b : Bool) → put k x (l ++ r) ≡ put k x l ++ r
          → cond a ((k, x) ∷ e ∷ (l ++ r)) (cond b ((k, x) ∷ (l ++ r)) (e ∷ put k x (l ++ r))) ≡ cond a ((k, x) ∷ e ∷ l) (cond b ((k, x) ∷ l) (e ∷ put k x l)) ++ r
      by_tests true b later = refl
      by_tests false true later = refl
      by_tests false false later = ap (λ t. e ∷ t) later

  pub put_right : (k : ℕ) (x : A) (a m : ℕ) (l r : List (ℕ × A)) → m ≤ k → Between a m l → put k x (l ++ r) ≡ l ++ put k x r
  put_right k x a m [] r more h = refl
  put_right k x a m (e ∷ l) r more h = let last = between_order (e.0 + 1) m l h.1 in
      rw (below_not k e.0 (omega (arith, last)), apart_above k e.0 (omega (arith, last))) (ap (λ t. e ∷ t) (put_right k x (e.0 + 1) m l r more h.1))

  pub put_last : (k : ℕ) (x : A) (a m : ℕ) (l : List (ℕ × A)) → m ≤ k → Between a m l → put k x l ≡ l ++ (k, x) ∷ []
  put_last k x a m [] more h = refl
  put_last k x a m (e ∷ l) more h = let last = between_order (e.0 + 1) m l h.1 in
      rw (below_not k e.0 (omega (arith, last)), apart_above k e.0 (omega (arith, last))) (ap (λ t. e ∷ t) (put_last k x (e.0 + 1) m l more h.1))

  pub put_between : (k : ℕ) (x : A) (a b : ℕ) (es : List (ℕ × A)) → a ≤ k → k < b → Between a b es → Between a b (put k x es)
  put_between k x a b [] l r h = (l, omega arith)
  put_between k x a b (e ∷ es) l r h = sorted (sort_numbers k e.0) (λ more. put_between k x (e.0 + 1) b es (omega (arith, more)) r h.1)
    where
      sorted : (k < e.0) ⊎ ((k ≡ e.0) ⊎ (e.0 < k)) → (e.0 < k → Between (e.0 + 1) b (put k x es)) → Between a b (put k x (e ∷ es))
      sorted (inl less) later = rw (below_is k e.0 less) (l, (omega arith, h.1))
      sorted (inr (inl same)) later = rw (below_not k e.0 (omega (arith, same)), same_is k e.0 same) (l, wider (e.0 + 1) b (k + 1) b es (omega (arith, same)) (omega arith) h.1)
      sorted (inr (inr more)) later = rw (below_not k e.0 (omega (arith, more)), apart_above k e.0 more) (h.0, later more)

  pub put_some : (k : ℕ) (x : A) (es : List (ℕ × A)) → 1 ≤ length (put k x es)
  put_some k x [] = omega arith
  put_some k x (e ∷ es) = by_tests (ltb k e.0) (eqb k e.0)
    where
      by_tests : (a b : Bool) → 1 ≤ length (cond a ((k, x) ∷ e ∷ es) (cond b ((k, x) ∷ es) (e ∷ put k x es)))
      by_tests true b = omega arith
      by_tests false true = omega arith
      by_tests false false = omega arith

  -- ---- what is removed
  pub removed_none : (k m c : ℕ) (r : List (ℕ × A)) → k < m → Between m c r → removed k r ≡ r
  removed_none k m c [] l h = refl
  removed_none k m c (e ∷ r) l h = let first = h.0 in rw (apart_above e.0 k (omega (arith, first))) (ap (λ t. e ∷ t) (removed_none k (e.0 + 1) c r (omega (arith, first)) h.1))

  pub removed_left : (k m c : ℕ) (l r : List (ℕ × A)) → k < m → Between m c r → removed k (l ++ r) ≡ removed k l ++ r
  removed_left k m c [] r less h = removed_none k m c r less h
  removed_left k m c (e ∷ l) r less h = by_test (eqb e.0 k) (removed_left k m c l r less h)
    where
      by_test : (b : Bool) → removed k (l ++ r) ≡ removed k l ++ r → cond b (l ++ r) (e ∷ removed k (l ++ r)) ≡ cond b l (e ∷ removed k l) ++ r
      by_test true later = refl
      by_test false later = ap (λ t. e ∷ t) later

  pub removed_right : (k a m : ℕ) (l r : List (ℕ × A)) → m ≤ k → Between a m l → removed k (l ++ r) ≡ l ++ removed k r
  removed_right k a m [] r more h = refl
  removed_right k a m (e ∷ l) r more h = let last = between_order (e.0 + 1) m l h.1 in rw (apart_below e.0 k (omega (arith, last))) (ap (λ t. e ∷ t) (removed_right k (e.0 + 1) m l r more h.1))

  pub removed_between : (k a b : ℕ) (es : List (ℕ × A)) → Between a b es → Between a b (removed k es)
  removed_between k a b [] h = h
  removed_between k a b (e ∷ es) h = by_test (eqb e.0 k) (removed_between k (e.0 + 1) b es h.1)
    where
      by_test : (t : Bool) → Between (e.0 + 1) b (removed k es) → Between a b (cond t es (e ∷ removed k es))
      by_test true later = let first = h.0 in wider (e.0 + 1) b a b es (omega (arith, first)) (omega arith) h.1
      by_test false later = (h.0, later)

  -- ---- the first ones
  pub take_between : (n a b : ℕ) (es : List (ℕ × A)) → Between a b es → Between a b (take n es)
  take_between zero a b es h = between_order a b es h
  take_between (suc n) a b [] h = h
  take_between (suc n) a b (e ∷ es) h = (h.0, take_between n (e.0 + 1) b es h.1)

  pub take_right : (n : ℕ) (l r : List (ℕ × A)) → length l ≤ n → l ++ take (n - length l) r ≡ take n (l ++ r)
  take_right n l r h = let e : length l + (n - length l) ≡ n = omega arith in sym (take-append-add l r (n - length l)) ∙ ap (λ i. take i (l ++ r)) e
