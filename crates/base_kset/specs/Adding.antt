-- Numbers added one by one.
use Rattle.std.proofs.Common.{◌≡◌, ℕ, ◌+◌, ◌<◌, ◌≤◌, Bool, true, false, cond, List, [], ◌∷◌, ◌++◌, length, Option, Some, None, refl, arith}
use Rattle.std.specs.Prelude.{nat_lt, nat_le, ◌==◌}
use Rattle.std.specs.List.{range_with_len}
use Rattle.std.proofs.lemmas.Bool.Decides.{nat_tests}
use Rattle.std.proofs.lemmas.List.{map-id}
use Rattle.std.proofs.lemmas.List.FromFn.{map-range_with_len_more}
use Rattle.base_trait.proofs.Tests.{at_choice}
use Rattle.base_kset.specs.Sets.{placed, set_with, bounded, add, add_all}

pub placed_grows : (x : ℕ) (s : List ℕ) → length s ≤ length (placed x s)
placed_grows x [] = omega arith
placed_grows x (y ∷ s) =
    at_choice (λ l. length (y ∷ s) ≤ length l) (nat_lt x y) (x ∷ y ∷ s) _ (λ e. omega arith)
    (λ e. let more = placed_grows x s in at_choice (λ l. length (y ∷ s) ≤ length l) (x == y) (y ∷ s) (y ∷ placed x s) (λ f. omega arith) (λ f. omega (arith, more)))

pub set_grows : (s xs : List ℕ) → length s ≤ length (set_with s xs)
set_grows s [] = omega arith
set_grows s (x ∷ xs) = let first = placed_grows x s in let rest = set_grows (placed x s) xs in omega (arith, first, rest)

module _ (K : ℕ) where
  pub bounded_few : (s : List ℕ) → length s ≤ K → bounded K s ≡ Some s
  bounded_few s h = at_choice (λ z. z ≡ Some s) (nat_le (length s) K) (Some s) None (λ e. refl) (λ e. absurd (grind (arith, nat_tests)))

  pub bounded_many : (s : List ℕ) → K < length s → bounded K s ≡ None
  bounded_many s h = at_choice (λ z. z ≡ None) (nat_le (length s) K) (Some s) None (λ e. absurd (grind (arith, nat_tests))) (λ e. refl)

  pub add_all_none : (xs : List ℕ) → add_all K None xs ≡ None
  add_all_none [] = refl
  add_all_none (x ∷ xs) = add_all_none xs

  -- added one by one, the numbers make the set, as far as it is bounded
  pub add_all_bounded : (s xs : List ℕ) → add_all K (bounded K s) xs ≡ bounded K (set_with s xs)
  add_all_bounded s [] = refl
  add_all_bounded s (x ∷ xs) =
      at_size (nat_le (length s) K) refl (add_all_bounded (placed x s) xs)
    where
      at_size : (b : Bool) → b ≡ nat_le (length s) K → add_all K (bounded K (placed x s)) xs ≡ bounded K (set_with (placed x s) xs)
          → add_all K (add K (bounded K s) x) xs ≡ bounded K (set_with (placed x s) xs)
      at_size true e h = rw (bounded_few s (grind (arith, nat_tests))) h
      at_size false e h =
          let many : K < length s = grind (arith, nat_tests) in
          let grown = set_grows s (x ∷ xs) in
          rw (bounded_many s many, add_all_none xs, bounded_many (set_with (placed x s) xs) (omega (arith, many, grown))) refl

  pub add_all_is : (s xs : List ℕ) → length s ≤ K → add_all K (Some s) xs ≡ bounded K (set_with s xs)
  add_all_is s xs h = rw (← bounded_few s h) (add_all_bounded s xs)

  pub add_all_append : (s : Option (List ℕ)) (xs ys : List ℕ) → add_all K s (xs ++ ys) ≡ add_all K (add_all K s xs) ys
  add_all_append s [] ys = refl
  add_all_append s (x ∷ xs) ys = add_all_append (add K s x) xs ys

-- one more successive number
pub range_more : (low n : ℕ) → range_with_len low (n + 1) ≡ range_with_len low n ++ (low + n) ∷ []
range_more low n = simp map-id at (map-range_with_len_more (λ (x : ℕ). x) low n (low + n) refl)
