-- The numbers of a set that lie between, collected one by one.
use Rattle.std.proofs.Common.{◌≡◌, ◌∙◌, ℕ, ◌+◌, ◌<◌, ◌≤◌, Bool, true, false, cond, List, [], ◌∷◌, ◌++◌, length, Option, Some, None, refl, sym, ap, arith, append-nil}
use Rattle.std.specs.Prelude.{nat_le, nat_lt, ◌==◌, ◌&&◌, if◌then◌else◌}
use Rattle.std.specs.List.{filter}
use Rattle.std.proofs.lemmas.Bool.Decides.{nat_tests}
use Rattle.std.proofs.lemmas.List.{append_assoc, length-append}
use Rattle.base_trait.specs.Lists.{Each, IsAscendingFrom}
use Rattle.base_trait.proofs.Lists.{ascending_lower}
use Rattle.base_trait.proofs.Tests.{at_choice}
use Rattle.base_kset.specs.Adding.{bounded_few}
use Rattle.base_kset.specs.Sets.{IsSet, bounded, placed}
use Rattle.base_cuts.specs.Sets.{numbers_between, set_if_any, with_all, with_between, with_last}

each_below : (m n : ℕ) (xs : List ℕ) → m ≤ n → Each (λ x. x < m) xs → Each (λ x. x < n) xs
each_below m n [] h below = tt
each_below m n (x ∷ xs) h below = let first = below.0 in (omega (arith, h, first), each_below m n xs h below.1)

each_end : (n : ℕ) (xs : List ℕ) → Each (λ x. x < n + 1) xs → Each (λ x. x < n + 1) (xs ++ n ∷ [])
each_end n [] h = (omega arith, tt)
each_end n (x ∷ xs) h = (h.0, each_end n xs h.1)

-- a greater number goes behind the others
placed_end : (n : ℕ) (xs : List ℕ) → Each (λ x. x < n) xs → placed n xs ≡ xs ++ n ∷ []
placed_end n [] h = refl
placed_end n (x ∷ xs) h =
    let first = h.0 in let rest = placed_end n xs h.1 in
    at_choice (λ l. l ≡ x ∷ (xs ++ n ∷ [])) (nat_lt n x) (n ∷ x ∷ xs) _ (λ e. absurd (grind (arith, nat_tests, first)))
    (λ e. at_choice (λ l. l ≡ x ∷ (xs ++ n ∷ [])) (n == x) (x ∷ xs) (x ∷ placed n xs) (λ f. absurd (grind (arith, nat_tests, first))) (λ f. ap (λ l. x ∷ l) rest))

module _ (K : ℕ) where
  last_is : (n : ℕ) (xs : List ℕ) → Each (λ x. x < n) xs → length xs + 1 ≤ K → Some (with_last K (set_if_any xs) n) ≡ set_if_any (xs ++ n ∷ [])
  last_is n [] below few = ap Some (bounded_few K (n ∷ []) few)
  last_is n (x ∷ xs) below few =
      let size = length-append (x ∷ xs) (n ∷ []) in
      ap (λ l. Some (bounded K l)) (placed_end n (x ∷ xs) below) ∙ ap Some (bounded_few K ((x ∷ xs) ++ n ∷ []) (omega (arith, size, few)))

  module _ (low high : ℕ) where
    all_more : (bound : ℕ) (xs ns : List ℕ) → Each (λ x. x < bound) xs → IsAscendingFrom bound ns → length xs + length ns ≤ K
        → with_all K low high (set_if_any xs) ns ≡ set_if_any (xs ++ numbers_between low high ns)
    all_more bound xs [] below ascends few = ap set_if_any (sym (append-nil xs))
    all_more bound xs (n ∷ ns) below ascends few = at_test (nat_le low n && nat_le n high) (all_more (n + 1) (xs ++ n ∷ []) ns) (all_more (n + 1) xs ns)
      where
        first : bound ≤ n
        first = ascends.0

        at_test : (b : Bool)
            → (Each (λ x. x < n + 1) (xs ++ n ∷ []) → IsAscendingFrom (n + 1) ns → length (xs ++ n ∷ []) + length ns ≤ K → with_all K low high (set_if_any (xs ++ n ∷ [])) ns ≡ set_if_any ((xs ++ n ∷ []) ++ numbers_between low high ns))
            → (Each (λ x. x < n + 1) xs → IsAscendingFrom (n + 1) ns → length xs + length ns ≤ K → with_all K low high (set_if_any xs) ns ≡ set_if_any (xs ++ numbers_between low high ns))
            → with_all K low high (cond b (Some (with_last K (set_if_any xs) n)) (set_if_any xs)) ns ≡ set_if_any (xs ++ cond b (n ∷ numbers_between low high ns) (numbers_between low high ns))
        at_test true f g =
            let size = length-append xs (n ∷ []) in
            let smaller = each_below bound n xs first below in
            ap (λ o. with_all K low high o ns) (last_is n xs smaller (omega (arith, few)))
            ∙ f (each_end n xs (each_below bound (n + 1) xs (omega (arith, first)) below)) ascends.1 (omega (arith, size, few))
            ∙ ap set_if_any (append_assoc xs (n ∷ []) (numbers_between low high ns))
        at_test false f g = g (each_below bound (n + 1) xs (omega (arith, first)) below) ascends.1 (omega (arith, few))

    -- from none they are the set of those that lie between
    pub all_is : (w : ℕ) (s : List ℕ) → IsSet K w s → with_all K low high None s ≡ set_if_any (numbers_between low high s)
    all_is w s set = let few = set.few in all_more 0 [] s tt set.ascending (omega (arith, few))
