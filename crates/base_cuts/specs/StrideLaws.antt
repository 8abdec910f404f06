-- Sets of at most 16 numbers and strided intervals are cut.
use Rattle.std.proofs.Common.{◌≡◌, ℕ, zero, suc, ◌+◌, ◌-◌, ◌*◌, ◌/◌, ◌<◌, ◌≤◌, ◌^◌, min, List, [], ◌∷◌, length, Option, Some, None, refl, sym, subst, arith, IsTrue, mul-le-mul_right}
use Rattle.std.specs.Prelude.{nat_le, option_map, IfSome, IsSomeAnd, ◌&&◌}
use Rattle.std.specs.Int.{◌∣◌}
use Rattle.std.proofs.Math.Nat.{dvd_refl, dvd-sub, dvd-mul_left, div-mul_cancel, div-lt_iff_lt-mul}
use Rattle.std.proofs.lemmas.Bool.Decides.{nat_tests}
use Rattle.base_trait.specs.Lists.{IsAmong}
use Rattle.base_trait.proofs.Tests.{at_choice}
use Rattle.base_strides.specs.Held.{of_fits, of_stands, of_within}
use Rattle.base_strides.specs.Meaning.{Fits, Stands, absorbs_word, of_stretch, span, words}
use Rattle.base_strides.specs.Sound.{IsPart}
use Rattle.base_strides.specs.Stretch.{Holds, IsWithin, stretch, stretch_below, stretch_holds, stretch_whole, within_told}
use Rattle.base_strides.specs.Words.{Word, Listed, Strided}
use Rattle.base_strides.specs.declared.stretch.Stretch.{Stretch}
use Rattle.base_cuts.specs.Cuts.{CutLaws}
use Rattle.base_cuts.specs.Sets.{numbers_between}
use Rattle.base_cuts.specs.SetLaws.{between_has, between_set, between_within}
use Rattle.base_cuts.specs.Strides.{first_from, listed_if_any, rounded_up, stride_cuts, stretch_left, word_meet}

-- ---- the word of a set that has a number
module _ (P : Word → Type 0) where
  if_listed : (s : List ℕ) → (1 ≤ length s → P (Listed s)) → IfSome (listed_if_any s) P
  if_listed [] f = tt
  if_listed (n ∷ s) f = f (omega arith)

  listed_and : (n : ℕ) (s : List ℕ) → IsAmong n s → P (Listed s) → IsSomeAnd (listed_if_any s) P
  listed_and n [] h p = absurd h
  listed_and n (m ∷ s) h p = p

-- ---- the first number of the class
multiples : (n d q : ℕ) → n ≤ q * d → rounded_up n d ≤ q * d
multiples n zero q h = omega arith
multiples n (suc d) q h =
    let less : n + (suc d - 1) < suc q * suc d = omega (arith, h) in
    let fewer : (n + (suc d - 1)) / suc d < suc q = (div-lt_iff_lt-mul (omega arith)).1 less in
    mul-le-mul_right (suc d) (omega (arith, fewer))

first_least : (x : Stretch) (low n : ℕ) → Holds x n → low ≤ n → first_from x low ≤ n
first_least x low n h a =
    let above = h.above in
    let whole = div-mul_cancel x.step h.class in
    let up = multiples (low - x.lo) x.step ((n - x.lo) / x.step) (subst (λ z. low - x.lo ≤ z) (sym whole) (omega arith)) in
    let below : rounded_up (low - x.lo) x.step ≤ n - x.lo = subst (λ z. rounded_up (low - x.lo) x.step ≤ z) whole up in
    omega (arith, above, below)

-- ---- what is left of a stretch
module _ (x : Stretch) (low high : ℕ) where
  abbrev left : Stretch
  left = stretch (first_from x low) x.step (min x.hi high)

  if_left : (P : Stretch → Type 0) → (first_from x low ≤ min x.hi high → P left) → IfSome (stretch_left x low high) P
  if_left P f = at_choice (λ o. IfSome o P) (nat_le (first_from x low) (min x.hi high)) (Some left) None (λ e. f (grind (arith, nat_tests))) (λ e. tt)

  left_and : (P : Stretch → Type 0) → first_from x low ≤ min x.hi high → P left → IsSomeAnd (stretch_left x low high) P
  left_and P h p = at_choice (λ o. IsSomeAnd o P) (nat_le (first_from x low) (min x.hi high)) (Some left) None (λ e. p) (λ e. absurd (grind (arith, nat_tests)))

  left_within : first_from x low ≤ min x.hi high → IsWithin x left
  left_within h =
      let below = stretch_below (first_from x low) x.step (min x.hi high) h in
      let rest : first_from x low - x.lo ≡ rounded_up (low - x.lo) x.step = omega arith in
      record {
        low = omega arith;
        high = omega (arith, below);
        steps = dvd_refl x.step;
        class = subst (λ z. x.step ∣ z) (sym rest) (dvd-mul_left x.step ((low - x.lo + (x.step - 1)) / x.step));
      }

  left_part : (w : ℕ) → x.hi < 2 ^ w → first_from x low ≤ min x.hi high → IsPart w left
  left_part w fits h =
      let below = stretch_below (first_from x low) x.step (min x.hi high) h in
      record { whole = stretch_whole (first_from x low) x.step (min x.hi high); fits = omega (arith, below) }

  left_holds : (n : ℕ) → Holds x n → low ≤ n → n ≤ high → Holds left n
  left_holds n h a b =
      let above = h.above in let below = h.below in
      let least = first_least x low n h a in
      let rest : n - first_from x low ≡ n - x.lo - rounded_up (low - x.lo) x.step = omega arith in
      stretch_holds (first_from x low) x.step (min x.hi high) n least (omega (arith, below))
      (subst (λ z. x.step ∣ z) (sym rest) (dvd-sub x.step h.class (dvd-mul_left x.step ((low - x.lo + (x.step - 1)) / x.step))))

-- it is one of the width
pub left_parts : (w : ℕ) (x : Stretch) (low high : ℕ) → IsPart w x → IfSome (stretch_left x low high) (IsPart w)
left_parts w x low high h = if_left x low high (IsPart w) (left_part x low high w h.fits)

-- what holds of its word
module _ (P : Word → Type 0) where
  if_word : (o : Option Stretch) → IfSome o (λ y. P (of_stretch y)) → IfSome (option_map of_stretch o) P
  if_word None h = tt
  if_word (Some y) h = h

  word_and : (o : Option Stretch) → IsSomeAnd o (λ y. P (of_stretch y)) → IsSomeAnd (option_map of_stretch o) P
  word_and None h = absurd h
  word_and (Some y) h = h

-- ---- words
pub meet_fits : (w low high : ℕ) (x : Word) → Fits w x → IfSome (word_meet x low high) (Fits w)
meet_fits w low high (Listed s) fits = if_listed (Fits w) (numbers_between low high s) (between_set 16 w low high s fits)
meet_fits w low high (Strided x) fits =
    if_word (Fits w) (stretch_left x low high) (if_left x low high (λ y. Fits w (of_stretch y)) (λ h. of_fits w (left x low high) (left_part x low high w fits.part.fits h)))

meet_within : (low high : ℕ) (x : Word) → IfSome (word_meet x low high) (λ y. IsTrue (absorbs_word x y))
meet_within low high (Listed s) = if_listed (λ y. IsTrue (absorbs_word (Listed s) y)) (numbers_between low high s) (λ some. between_within low high s)
meet_within low high (Strided x) =
    if_word (λ y. IsTrue (absorbs_word (Strided x) y)) (stretch_left x low high) (if_left x low high (λ y. IsTrue (absorbs_word (Strided x) (of_stretch y))) (λ h.
    (within_told x (span (of_stretch (left x low high)))).1 (of_within x (left x low high) (stretch_whole (first_from x low) x.step (min x.hi high)) (left_within x low high h))))

meet_stands : (w low high n : ℕ) (x : Word) → Stands x n → n < 2 ^ w → low ≤ n → n ≤ high → IsSomeAnd (word_meet x low high) (λ y. Stands y n × (n < 2 ^ w))
meet_stands w low high n (Listed s) h below a b =
    let there = between_has low high n s h a b in
    listed_and (λ y. Stands y n × (n < 2 ^ w)) n (numbers_between low high s) there (there, below)
meet_stands w low high n (Strided x) h below a b =
    let least = first_least x low n h a in let last = h.below in
    word_and (λ y. Stands y n × (n < 2 ^ w)) (stretch_left x low high) (left_and x low high (λ y. Stands (of_stretch y) n × (n < 2 ^ w)) (omega (arith, least, last))
    (of_stands (left x low high) n (left_holds x low high n h a b), below))

pub strides_are_cut : CutLaws words stride_cuts
strides_are_cut = record {
  meet_fits = λ c w low high x width fits. meet_fits w low high x fits;
  meet_within = λ c w low high x width fits. meet_within low high x;
  meet_describes = λ c valuation w low high n x width fits h a b. meet_stands w low high n x h.0 h.1 a b;
}
