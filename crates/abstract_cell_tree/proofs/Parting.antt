-- Where ascending entries part.
use Rattle.std.proofs.Common.{◌≡◌, ℕ, ◌+◌, ◌-◌, ◌<◌, ◌≤◌, Bool, true, false, zero, suc, List, [], ◌∷◌, ◌++◌, map, take, drop, length, get_or, ltb, cond, refl, ap, ◌∙◌, arith, append_assoc, length-append}
use Rattle.std.proofs.lemmas.Bool.Decides.{nat_tests}
use Rattle.std.specs.List.Sorted.{IsPartitionPoint, IsNonDecreasingBy}
use Rattle.std.proofs.Math.Seq.{drop-append_seam}
use Rattle.std.proofs.lemmas.List.{drop_at, take_at, take_rest}
use Rattle.base_trait.specs.Lists.{IsAscendingFrom}
use Rattle.base_trait.proofs.Tests.{at_choice}
use Rattle.abstract_cell_tree.specs.Entries.{Between, place_of}

told_below : (m n : ℕ) → ltb m n ≡ true → m < n
told_below m n h = grind (arith, nat_tests)

told_not : (m n : ℕ) → ltb m n ≡ false → n ≤ m
told_not m n h = grind (arith, nat_tests)

module _ {A : Type 0} where
  above_at : (low : ℕ) (es : List (ℕ × A)) (j : ℕ) (d : ℕ × A) → IsAscendingFrom low (map (λ e. e.0) es) → j < length es → low ≤ (get_or es j d).0
  above_at low [] j d h l = absurd (omega arith)
  above_at low (e ∷ es) zero d h l = h.0
  above_at low (e ∷ es) (suc j) d h l = let first = h.0 in let later = above_at (e.0 + 1) es j d h.1 (omega arith) in omega (arith, first, later)

  pub keys_rise : (low : ℕ) (es : List (ℕ × A)) → IsAscendingFrom low (map (λ e. e.0) es) → IsNonDecreasingBy (λ e. e.0) es
  keys_rise low [] h i j d l b = absurd (omega arith)
  keys_rise low (e ∷ es) h zero zero d l b = omega arith
  keys_rise low (e ∷ es) h zero (suc j) d l b = let later = above_at (e.0 + 1) es j d h.1 (omega arith) in omega (arith, later)
  keys_rise low (e ∷ es) h (suc i) zero d l b = absurd (omega arith)
  keys_rise low (e ∷ es) h (suc i) (suc j) d l b = keys_rise (e.0 + 1) es h.1 i j d (omega arith) (omega arith)

  -- the place that parts lesser keys from the others
  pub place_found : (k : ℕ) (es : List (ℕ × A)) (i : ℕ) → i ≤ length es → IsPartitionPoint (λ e. ltb e.0 k ≡ true) (λ e. ltb e.0 k ≡ false) es i → i ≡ place_of k es
  place_found k [] zero l h = refl
  place_found k [] (suc i) l h = absurd (omega arith)
  place_found k (e ∷ es) zero l h = at_choice (λ t. 0 ≡ t) (ltb e.0 k) (suc (place_of k es)) 0 (λ a. let b : ltb e.0 k ≡ false = h.1 0 e (omega arith) (omega arith) in cc) (λ a. refl)
  place_found k (e ∷ es) (suc i) l h = at_choice (λ t. suc i ≡ t) (ltb e.0 k) (suc (place_of k es)) 0
      (λ a. ap (λ n. suc n) (place_found k es i (omega arith) ((λ n d p q. h.0 (suc n) d (omega arith) (omega arith)), (λ n d p q. h.1 (suc n) d (omega arith) (omega arith)))))
      (λ a. let b : ltb e.0 k ≡ true = h.0 0 e (omega arith) (omega arith) in cc)

  -- ascending entries lie between the first key and the last
  pub tight : (low : ℕ) (es : List (ℕ × A)) (d e : ℕ × A) (n : ℕ) → IsAscendingFrom low (map (λ e. e.0) es) → length es ≡ n + 1 → Between (get_or es 0 d).0 ((get_or es n e).0 + 1) es
  tight low [] d e n h l = absurd (omega (arith, l))
  tight low (x ∷ []) d e zero h l = (omega arith, omega arith)
  tight low (x ∷ []) d e (suc n) h l = absurd (omega (arith, l))
  tight low (x ∷ y ∷ es) d e zero h l = absurd (omega (arith, l))
  tight low (x ∷ y ∷ es) d e (suc n) h l = let later = tight (x.0 + 1) (y ∷ es) d e n h.1 (omega (arith, l)) in (omega arith, (h.1.0, later.1))

  pub first_less : (low : ℕ) (es : List (ℕ × A)) (d e : ℕ × A) (n : ℕ) → IsAscendingFrom low (map (λ e. e.0) es) → length es ≡ n + 1 → 1 ≤ n → (get_or es 0 d).0 < (get_or es n e).0
  first_less low [] d e n h l m = absurd (omega (arith, l))
  first_less low (x ∷ es) d e zero h l m = absurd (omega arith)
  first_less low (x ∷ es) d e (suc n) h l m = let later = above_at (x.0 + 1) es n e h.1 (omega (arith, l)) in omega (arith, later)

  pub parted : (a b m : ℕ) (es : List (ℕ × A)) → a ≤ m → m ≤ b → Between a b es → Between a m (take (place_of m es) es) × Between m b (drop (place_of m es) es)
  parted a b m [] l r h = (l, r)
  parted a b m (e ∷ es) l r h = by_test (ltb e.0 m) (λ t. told_below e.0 m t) (λ t. told_not e.0 m t) (λ less. parted (e.0 + 1) b m es (omega (arith, less)) r h.1)
    where
      by_test : (t : Bool) → (t ≡ true → e.0 < m) → (t ≡ false → m ≤ e.0) → (e.0 < m → Between (e.0 + 1) m (take (place_of m es) es) × Between m b (drop (place_of m es) es))
          → Between a m (take (cond t (suc (place_of m es)) 0) (e ∷ es)) × Between m b (drop (cond t (suc (place_of m es)) 0) (e ∷ es))
      by_test true f g later = let both = later (f refl) in ((h.0, both.0), both.1)
      by_test false f g later = (l, (g refl, h.1))

  pub some_lesser : (m : ℕ) (es : List (ℕ × A)) (d : ℕ × A) → 1 ≤ length es → (get_or es 0 d).0 < m → 1 ≤ place_of m es
  some_lesser m [] d l h = absurd (omega arith)
  some_lesser m (e ∷ es) d l h = by_test (ltb e.0 m) (λ t. told_not e.0 m t)
    where
      by_test : (t : Bool) → (t ≡ false → m ≤ e.0) → 1 ≤ cond t (suc (place_of m es)) 0
      by_test true g = omega arith
      by_test false g = let more = g refl in absurd (omega (arith, more, h))

  pub some_other : (m : ℕ) (es : List (ℕ × A)) (e : ℕ × A) (n : ℕ) → length es ≡ n + 1 → m ≤ (get_or es n e).0 → place_of m es < length es
  some_other m [] e n l h = absurd (omega (arith, l))
  some_other m (x ∷ es) e zero l h = by_test (ltb x.0 m) (λ t. told_below x.0 m t)
    where
      by_test : (t : Bool) → (t ≡ true → x.0 < m) → cond t (suc (place_of m es)) 0 < length (x ∷ es)
      by_test true f = let less = f refl in absurd (omega (arith, less, h))
      by_test false f = omega arith
  some_other m (x ∷ es) e (suc n) l h = by_test (ltb x.0 m) (some_other m es e n (omega (arith, l)) h)
    where
      by_test : (t : Bool) → place_of m es < length es → cond t (suc (place_of m es)) 0 < length (x ∷ es)
      by_test true later = omega arith
      by_test false later = omega arith

  -- ---- lists that were taken apart
  pub ascending_later : (low low' : ℕ) (es : List (ℕ × A)) → low' ≤ low → IsAscendingFrom low (map (λ e. e.0) es) → IsAscendingFrom low' (map (λ e. e.0) es)
  ascending_later low low' [] l h = tt
  ascending_later low low' (e ∷ es) l h = let first = h.0 in (omega (arith, first), h.1)

  pub ascending_drop : (low i : ℕ) (es : List (ℕ × A)) → IsAscendingFrom low (map (λ e. e.0) es) → IsAscendingFrom 0 (map (λ e. e.0) (drop i es))
  ascending_drop low zero es h = ascending_later low 0 es (omega arith) h
  ascending_drop low (suc i) [] h = tt
  ascending_drop low (suc i) (e ∷ es) h = ascending_drop (e.0 + 1) i es h.1

  pub ascending_front : (low : ℕ) (xs ys : List (ℕ × A)) → IsAscendingFrom low (map (λ e. e.0) (xs ++ ys)) → IsAscendingFrom low (map (λ e. e.0) xs)
  ascending_front low [] ys h = tt
  ascending_front low (e ∷ xs) ys h = (h.0, ascending_front (e.0 + 1) xs ys h.1)

module _ {A : Type 0} (es mid new left right d : List A) (count p len : ℕ) where
  -- a slice of which first the right part was taken, and then the left
  pub slice_parts : d ≡ es → len ≡ length d → count ≤ len → es ≡ mid ++ right → mid ≡ new ++ left → length left ≡ p → length right ≡ count - p → p < count
      → take (length d - (len - count)) (drop (len - count) d) ≡ left ++ right
  slice_parts same size few r l some others within =
      let whole : d ≡ new ++ (left ++ right) = same ∙ r ∙ ap (λ x. x ++ right) l ∙ append_assoc new left right in
      let first : len - count ≡ length new = omega (arith, size, ap length whole, length-append new (left ++ right), length-append left right, some, others, few, within) in
      take_rest d (len - count) ∙ ap (λ n. drop n d) first ∙ ap (λ x. drop (length new) x) whole ∙ drop-append_seam new (left ++ right)

  pub part_left : take (length d - (len - count)) (drop (len - count) d) ≡ left ++ right → length left ≡ p → take p (take (length d - (len - count)) (drop (len - count) d)) ≡ left
  part_left e some = ap (λ x. take p x) e ∙ take_at left right p some

  pub part_right : take (length d - (len - count)) (drop (len - count) d) ≡ left ++ right → length left ≡ p → drop p (take (length d - (len - count)) (drop (len - count) d)) ≡ right
  part_right e some = ap (λ x. drop p x) e ∙ drop_at left right p some
