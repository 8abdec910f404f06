-- Intervals are cut.
use Rattle.std.proofs.Common.{ℕ, ◌<◌, ◌≤◌, ◌^◌, Some, None, arith, IsTrue}
use Rattle.std.specs.Prelude.{nat_le, min, max, IfSome, IsSomeAnd}
use Rattle.std.proofs.lemmas.Bool.Decides.{nat_tests}
use Rattle.base_trait.proofs.Tests.{at_choice}
use Rattle.base_interval.specs.Meaning.{words}
use Rattle.base_interval.specs.Range.{Fits, Holds, from_to, is_within}
use Rattle.base_interval.specs.Instance.{within_told}
use Rattle.base_interval.specs.declared.range.Range.{Range}
use Rattle.base_cuts.specs.Cuts.{CutLaws}
use Rattle.base_cuts.specs.Intervals.{if_ordered, interval_cuts}

module _ (P : Range → Type 0) (low high : ℕ) where
  -- what holds of the interval, if it is one
  if_one : (low ≤ high → P (from_to low high)) → IfSome (if_ordered low high) P
  if_one f = at_choice (λ o. IfSome o P) (nat_le low high) (Some (from_to low high)) None (λ e. f (grind (arith, nat_tests))) (λ e. tt)

  one_and : low ≤ high → P (from_to low high) → IsSomeAnd (if_ordered low high) P
  one_and h p = at_choice (λ o. IsSomeAnd o P) (nat_le low high) (Some (from_to low high)) None (λ e. p) (λ e. absurd (grind (arith, nat_tests)))

pub intervals_are_cut : CutLaws words interval_cuts
intervals_are_cut = record {
  meet_fits = λ c w low high x width fits. let order = fits.0 in let below = fits.1 in
      if_one (λ y. Fits w y) (max x.lo low) (min x.hi high) (λ h. (h, omega arith));
  meet_within = λ c w low high x width fits.
      if_one (λ y. IsTrue (is_within x y)) (max x.lo low) (min x.hi high) (λ h. (within_told x (from_to (max x.lo low) (min x.hi high))).1 (omega arith, omega arith));
  meet_describes = λ c valuation w low high n x width fits h a b. let first = h.0.0 in let last = h.0.1 in
      one_and (λ y. Holds y n × (n < 2 ^ w)) (max x.lo low) (min x.hi high) (omega arith) ((omega arith, omega arith), h.1);
}
