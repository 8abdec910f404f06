-- Sets of results are best.
use Rattle.std.proofs.Common.{◌≡◌, ℕ, ◌+◌, ◌-◌, ◌≤◌, Bool, true, false, List, [], ◌∷◌, map, length, Some, None, refl, sym, ap, subst, arith, IsTrue, ◌⊎◌, inl, inr}
use Rattle.std.specs.Prelude.{not, nat_lt}
use Rattle.std.specs.List.{list_any, flat_map, range_with_len}
use Rattle.std.proofs.lemmas.Bool.Decides.{nat_tests}
use Rattle.std.proofs.lemmas.List.FromFn.{length-range_with_len}
use Rattle.word_operations.specs.Cmp.{cmp_of}
use Rattle.base_trait.specs.Lists.{IsAmong, IsAscending}
use Rattle.base_trait.proofs.Lists.{ascending_same, among_map, map_among, range_ascends, range_has, range_within}
use Rattle.base_trait.proofs.Tests.{or_sorted, at_choice}
use Rattle.base_kset.specs.Adding.{bounded_few, bounded_many}
use Rattle.base_kset.specs.Best.{IsSetOf, IsBest, IsImage, IsProduct, IsOfEither, BestResults, ExactComparisons, NoNumbers}
use Rattle.base_kset.specs.Instance.{set_has, set_keeps, set_only, set_ascends, among_rows, rows_among, some_pair_at, outcome_itself}
use Rattle.base_kset.specs.Meaning.{some_pair, outcome}
use Rattle.base_kset.specs.Sets.{bounded, set_of, set_with, from_to}

-- a set of what P holds of, bounded, is best
bounded_best : (K : ℕ) (P : ℕ → Type 0) (s : List ℕ) → IsSetOf P s → IsBest K P (bounded K s)
bounded_best K P s h = record {
  set = λ t k few. let same = same_sets t k in rw (← same) (bounded_few K s (rw (← same) at few));
  any = λ t k many. let same = same_sets t k in bounded_many K s (rw (← same) at many);
}
  where
    same_sets : (t : List ℕ) → IsSetOf P t → s ≡ t
    same_sets t k = ascending_same 0 0 s t h.ascending k.ascending (λ n a. k.has n (h.only n a)) (λ n a. h.has n (k.only n a))

images_set : (f : ℕ → ℕ) (s : List ℕ) → IsSetOf (IsImage f s) (set_of (map f s))
images_set f s = record {
  ascending = set_ascends [] (map f s) tt;
  has = λ n h. subst (λ z. IsAmong z (set_of (map f s))) (sym h.2) (set_has (f h.0) [] (map f s) (among_map f h.0 s h.1));
  only = λ n h. found n (set_only n [] (map f s) h);
}
  where
    found : (n : ℕ) → IsAmong n [] ⊎ IsAmong n (map f s) → IsImage f s n
    found n (inl none) = absurd none
    found n (inr h) = map_among f n s h

products_set : (f : ℕ → ℕ → ℕ) (s t : List ℕ) → IsSetOf (IsProduct f s t) (set_of (flat_map (λ x. map (f x) t) s))
products_set f s t = record {
  ascending = set_ascends [] (flat_map (λ x. map (f x) t) s) tt;
  has = λ n h. subst (λ z. IsAmong z (set_of (flat_map (λ x. map (f x) t) s))) (sym h.4) (set_has (f h.0 h.1) [] (flat_map (λ x. map (f x) t) s) (among_rows f h.0 h.1 s t h.2 h.3));
  only = λ n h. found n (set_only n [] (flat_map (λ x. map (f x) t) s) h);
}
  where
    found : (n : ℕ) → IsAmong n [] ⊎ IsAmong n (flat_map (λ x. map (f x) t) s) → IsProduct f s t n
    found n (inl none) = absurd none
    found n (inr h) = rows_among f n s t h

union_set : (s t : List ℕ) → IsAscending s → IsSetOf (IsOfEither s t) (set_with s t)
union_set s t ascending = record {
  ascending = set_ascends s t ascending;
  has = λ n h. found n h;
  only = λ n h. set_only n s t h;
}
  where
    found : (n : ℕ) → IsAmong n s ⊎ IsAmong n t → IsAmong n (set_with s t)
    found n (inl h) = set_keeps n s t h
    found n (inr h) = set_has n s t h

range_best : (K low high : ℕ) → low ≤ high → IsBest K (λ n. (low ≤ n) × (n ≤ high)) (from_to K low high)
range_best K low high order =
    at_choice (IsBest K (λ n. (low ≤ n) × (n ≤ high))) (nat_lt (high - low) K) (Some (range_with_len low (high - low + 1))) None
    (λ e. record {
      set = λ t k few. ap Some (same t k);
      any = λ t k many. absurd (let size = length-range_with_len low (high - low + 1) in let l = ap length (same t k) in grind (arith, nat_tests, size, l));
    })
    (λ e. record {
      set = λ t k few. absurd (let size = length-range_with_len low (high - low + 1) in let l = ap length (same t k) in grind (arith, nat_tests, size, l));
      any = λ t k many. refl;
    })
  where
    same : (t : List ℕ) → IsSetOf (λ n. (low ≤ n) × (n ≤ high)) t → range_with_len low (high - low + 1) ≡ t
    same t k = ascending_same low 0 (range_with_len low (high - low + 1)) t (range_ascends low (high - low + 1)) k.ascending
        (λ n a. let r = range_within low (high - low + 1) n a in k.has n (r.0, omega (arith, r.1)))
        (λ n a. let r = k.only n a in range_has low (high - low + 1) n r.0 (omega (arith, r.1)))

pub best_results : (K : ℕ) → BestResults K
best_results K = (
  λ f s. bounded_best K (IsImage f s) (set_of (map f s)) (images_set f s),
  λ f s t. bounded_best K (IsProduct f s t) (set_of (flat_map (λ x. map (f x) t) s)) (products_set f s t),
  λ s t ascending. bounded_best K (IsOfEither s t) (set_with s t) (union_set s t ascending),
  λ low high order. range_best K low high order,
)

-- ---- comparisons
any_found : (test : ℕ → Bool) (xs : List ℕ) → IsTrue (list_any test xs) → (x : ℕ) × IsAmong x xs × IsTrue (test x)
any_found test [] h = cc
any_found test (x ∷ xs) h = sorted (or_sorted (test x) (list_any test xs) h) (any_found test xs)
  where
    sorted : IsTrue (test x) ⊎ IsTrue (list_any test xs) → (IsTrue (list_any test xs) → (y : ℕ) × IsAmong y xs × IsTrue (test y)) → (y : ℕ) × IsAmong y (x ∷ xs) × IsTrue (test y)
    sorted (inl k) f = (x, inl refl, k)
    sorted (inr k) f = let r = f k in (r.0, inr r.1, r.2)

pair_found : (test : ℕ → ℕ → Bool) (s t : List ℕ) → IsTrue (some_pair test s t) → (x : ℕ) × (y : ℕ) × IsAmong x s × IsAmong y t × IsTrue (test x y)
pair_found test s t h =
    let first = any_found (λ x. list_any (test x) t) s h in
    let second = any_found (test first.0) t first.2 in
    (first.0, second.0, first.1, second.1, second.2)

negated : (b : Bool) → IsTrue (not b) → b ≡ false
negated true h = cc
negated false h = refl

pub exact_comparisons : ExactComparisons
exact_comparisons k w s t true = (
  λ h. pair_found (outcome k w true) s t h,
  λ h. some_pair_at (outcome k w true) h.0 h.1 s t h.2 h.3 h.4,
)
exact_comparisons k w s t false = (
  λ h. let p = pair_found (outcome k w false) s t h in (p.0, p.1, p.2, p.3, negated (cmp_of k w p.0 p.1) p.4),
  λ h. some_pair_at (outcome k w false) h.0 h.1 s t h.2 h.3 (outcome_itself k w h.0 h.1 false (sym h.4)),
)

pub no_numbers : NoNumbers
no_numbers w None h = refl
no_numbers w (Some s) h = let some = h.some in let few = h.few in absurd (omega (arith, some, few))
