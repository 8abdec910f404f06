-- Sets of at most K numbers are cut.
use Rattle.std.proofs.Common.{◌≡◌, ℕ, ◌+◌, ◌-◌, ◌<◌, ◌≤◌, ◌^◌, Bool, true, false, cond, List, [], ◌∷◌, length, Option, Some, None, refl, subst, arith, IsTrue, inl, inr, pow_pos}
use Rattle.std.specs.Prelude.{nat_le, min, IfSome, IsSomeAnd, ◌&&◌}
use Rattle.std.specs.List.{filter}
use Rattle.std.proofs.lemmas.Bool.Decides.{nat_tests}
use Rattle.base_trait.specs.Lists.{IsAmong, IsAscendingFrom}
use Rattle.base_trait.proofs.Lists.{all_told, ascending_lower, each_at, each_from, filter_shorter}
use Rattle.base_trait.proofs.Tests.{and_both, at_choice}
use Rattle.base_kset.specs.Sets.{IsSet, from_to, has}
use Rattle.base_kset.specs.Meaning.{Fits, Stands, absorbs_set, words}
use Rattle.base_kset.specs.Instance.{from_to_fits, from_to_stands, has_from}
use Rattle.base_cuts.specs.Cuts.{CutLaws}
use Rattle.base_cuts.specs.Sets.{all_between, numbers_between, set_cuts, set_if_any, set_meet}

-- ---- what a test keeps of a list
kept : (test : ℕ → Bool) (n : ℕ) (xs : List ℕ) → IsAmong n xs → IsTrue (test n) → IsAmong n (filter test xs)
kept test n [] h t = absurd h
kept test n (x ∷ xs) h t = at_test (test x) refl h (λ k. kept test n xs k t)
  where
    at_test : (b : Bool) → b ≡ test x → IsAmong n (x ∷ xs) → (IsAmong n xs → IsAmong n (filter test xs)) → IsAmong n (cond b (x ∷ filter test xs) (filter test xs))
    at_test true e (inl k) f = inl k
    at_test true e (inr k) f = inr (f k)
    at_test false e (inl k) f = let same = subst (λ z. IsTrue (test z)) k t in cc
    at_test false e (inr k) f = f k

kept_only : (test : ℕ → Bool) (n : ℕ) (xs : List ℕ) → IsAmong n (filter test xs) → IsAmong n xs
kept_only test n [] h = absurd h
kept_only test n (x ∷ xs) h = at_test (test x) h (kept_only test n xs)
  where
    at_test : (b : Bool) → IsAmong n (cond b (x ∷ filter test xs) (filter test xs)) → (IsAmong n (filter test xs) → IsAmong n xs) → IsAmong n (x ∷ xs)
    at_test true (inl k) f = inl k
    at_test true (inr k) f = inr (f k)
    at_test false k f = inr (f k)

kept_ascends : (test : ℕ → Bool) (low : ℕ) (xs : List ℕ) → IsAscendingFrom low xs → IsAscendingFrom low (filter test xs)
kept_ascends test low [] h = tt
kept_ascends test low (x ∷ xs) h = at_test (test x) (kept_ascends test (x + 1) xs h.1)
  where
    at_test : (b : Bool) → IsAscendingFrom (x + 1) (filter test xs) → IsAscendingFrom low (cond b (x ∷ filter test xs) (filter test xs))
    at_test true k = (h.0, k)
    at_test false k = let first = h.0 in ascending_lower (x + 1) low (filter test xs) (omega (arith, first)) k

-- ---- the numbers between two numbers
pub between_within : (low high : ℕ) (s : List ℕ) → IsTrue (absorbs_set (Some s) (Some (numbers_between low high s)))
between_within low high s =
    let test : ℕ → Bool = λ n. nat_le low n && nat_le n high in
    (all_told (has s) (numbers_between low high s)).1 (each_from (λ n. IsTrue (has s n)) (numbers_between low high s) (λ n k. has_from n s (kept_only test n s k)))

pub between_has : (low high n : ℕ) (s : List ℕ) → IsAmong n s → low ≤ n → n ≤ high → IsAmong n (numbers_between low high s)
between_has low high n s h a b =
    kept (λ n. nat_le low n && nat_le n high) n s h (and_both (nat_le low n) (nat_le n high) (grind (arith, nat_tests)) (grind (arith, nat_tests)))

module _ (K : ℕ) where
  -- ---- a set that has a number
  if_any : (P : Option (List ℕ) → Type 0) (s : List ℕ) → (1 ≤ length s → P (Some s)) → IfSome (set_if_any s) P
  if_any P [] f = tt
  if_any P (n ∷ s) f = f (omega arith)

  any_and : (P : Option (List ℕ) → Type 0) (n : ℕ) (s : List ℕ) → IsAmong n s → P (Some s) → IsSomeAnd (set_if_any s) P
  any_and P n [] h p = absurd h
  any_and P n (m ∷ s) h p = p

  -- ---- all numbers between
  if_between : (P : Option (List ℕ) → Type 0) (low high : ℕ) → (low ≤ high → P (from_to K low high)) → IfSome (all_between K low high) P
  if_between P low high f = at_choice (λ o. IfSome o P) (nat_le low high) (Some (from_to K low high)) None (λ e. f (grind (arith, nat_tests))) (λ e. tt)

  between_and : (P : Option (List ℕ) → Type 0) (low high : ℕ) → low ≤ high → P (from_to K low high) → IsSomeAnd (all_between K low high) P
  between_and P low high h p = at_choice (λ o. IsSomeAnd o P) (nat_le low high) (Some (from_to K low high)) None (λ e. p) (λ e. absurd (grind (arith, nat_tests)))

  -- a set that is left
  pub between_set : (w low high : ℕ) (s : List ℕ) → IsSet K w s → 1 ≤ length (numbers_between low high s) → IsSet K w (numbers_between low high s)
  between_set w low high s fits some =
      let test : ℕ → Bool = λ n. nat_le low n && nat_le n high in
      record {
        some = some;
        few = let shorter = filter_shorter test s in let few = fits.few in omega arith;
        ascending = kept_ascends test 0 s fits.ascending;
        below = each_from (λ n. n < 2 ^ w) (numbers_between low high s) (λ n k. each_at (λ n. n < 2 ^ w) s n fits.below (kept_only test n s k));
      }

  pub meet_fits : (w low high : ℕ) (x : Option (List ℕ)) → Fits K w x → IfSome (set_meet K w x low high) (Fits K w)
  meet_fits w low high None fits = if_between (Fits K w) low (min high (2 ^ w - 1)) (λ h. let some = pow_pos w in from_to_fits K w low (min high (2 ^ w - 1)) h (omega arith))
  meet_fits w low high (Some s) fits = if_any (Fits K w) (numbers_between low high s) (between_set w low high s fits)

  meet_within : (w low high : ℕ) (x : Option (List ℕ)) → IfSome (set_meet K w x low high) (λ y. IsTrue (absorbs_set x y))
  meet_within w low high None = if_between (λ y. IsTrue (absorbs_set None y)) low (min high (2 ^ w - 1)) (λ h. refl)
  meet_within w low high (Some s) = if_any (λ y. IsTrue (absorbs_set (Some s) y)) (numbers_between low high s) (λ some. between_within low high s)

  meet_stands : (w low high n : ℕ) (x : Option (List ℕ)) → Stands x n → n < 2 ^ w → low ≤ n → n ≤ high → IsSomeAnd (set_meet K w x low high) (λ y. Stands y n × (n < 2 ^ w))
  meet_stands w low high n None h below a b =
      between_and (λ y. Stands y n × (n < 2 ^ w)) low (min high (2 ^ w - 1)) (omega arith) (from_to_stands K low (min high (2 ^ w - 1)) n a (omega arith), below)
  meet_stands w low high n (Some s) h below a b =
      let there = between_has low high n s h a b in
      any_and (λ y. Stands y n × (n < 2 ^ w)) n (numbers_between low high s) there (there, below)

  pub sets_are_cut : CutLaws (words K) (set_cuts K)
  sets_are_cut = record {
    meet_fits = λ c w low high x width fits. meet_fits w low high x fits;
    meet_within = λ c w low high x width fits. meet_within w low high x;
    meet_describes = λ c valuation w low high n x width fits h a b. meet_stands w low high n x h.0 h.1 a b;
  }
