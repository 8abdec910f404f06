-- Intervals are split at 50 without loss, and alike.
use Rattle.std.specs.Prelude.{◌≡◌, ℕ, ◌≤◌, ◌&&◌, nat_lt, nat_le, true, false, List, [], ◌∷◌, Option, Some, None, IsTrue, refl, if◌then◌else◌}
use Rattle.std.proofs.Common.{arith, inl, inr, subst}
use Rattle.std.proofs.lemmas.Bool.Decides.{nat_tests}
use Rattle.base_trait.specs.Uses.{Seen}
use Rattle.base_trait.specs.Lists.{AreAmong, Each}
use Rattle.fixpoint_theory.proofs.Growth.{by_bool}
use Rattle.fixpoint_cases.specs.ByCases.{MergeLaws}
use Rattle.fixpoint_cases.specs.Cases.{IsSplit}
use Rattle.fixpoint_cases.specs.Lists.{OneOf}
use Rattle.fixpoint_cases.specs.Same.{AreSame, AreSameSplits, SplitsAlike}
use Rattle.test_cases.specs.declared.machine.Interval.{Interval}
use Rattle.test_cases.specs.declared.machine.State.{State}
use Rattle.test_cases.specs.Machine.{IsWithin, intervals, split_at}

-- what holds of the two parts holds of the pieces
parted : (P : List Interval → Type 0) (x : Interval) (pieces : List Interval) → P (record { low = x.low; high = 49 } ∷ record { low = 50; high = x.high } ∷ [])
    → (if nat_lt x.low 50 && nat_le 50 x.high then Some (record { low = x.low; high = 49 } ∷ record { low = 50; high = x.high } ∷ []) else None) ≡ Some pieces → P pieces
parted P x pieces h e =
    by_bool (nat_lt x.low 50 && nat_le 50 x.high)
    (λ b. (if b then Some (record { low = x.low; high = 49 } ∷ record { low = 50; high = x.high } ∷ []) else None) ≡ Some pieces → P pieces)
    (λ t is. let same : record { low = x.low; high = 49 } ∷ record { low = 50; high = x.high } ∷ [] ≡ pieces = cc in subst P same h)
    (λ t is. cc)
    e

either : (x : Interval) (s : State) → IsWithin x s → OneOf (λ y. IsWithin y s) (record { low = x.low; high = 49 } ∷ record { low = 50; high = x.high } ∷ [])
either x s within =
    let low = within.0 in
    let high = within.1 in
    by_bool (nat_lt s.number 50) (λ b. nat_lt s.number 50 ≡ b → OneOf (λ y. IsWithin y s) (record { low = x.low; high = 49 } ∷ record { low = 50; high = x.high } ∷ []))
    (λ t is. inl (low, grind (arith, nat_tests)))
    (λ t is. inr (inl (grind (arith, nat_tests), high)))
    refl

pub intervals_are_split : IsSplit intervals split_at
intervals_are_split = record {
  pieces_fit = λ at x pieces fits e. parted (Each intervals.fits) x pieces (omega arith, (fits, tt)) e;
  pieces_list = λ at x pieces fits e. parted (Each (λ y. AreAmong (intervals.listed y) (intervals.listed x))) x pieces ((inl refl, tt), ((inl refl, tt), tt)) e;
  pieces_cover = λ at x pieces s fits within e. parted (OneOf (λ y. IsWithin y s)) x pieces (either x s within) e;
}

same_itself : (xs : List Interval) → AreSame intervals xs xs
same_itself [] = tt
same_itself (x ∷ xs) = (refl, same_itself xs)

split_itself : (o : Option (List Interval)) → AreSameSplits intervals o o
split_itself None = tt
split_itself (Some xs) = same_itself xs

pub intervals_are_split_alike : SplitsAlike intervals split_at
intervals_are_split_alike at x y fx fy same = subst (λ z. AreSameSplits intervals (split_at at x) (split_at at z)) same (split_itself (split_at at x))

-- uses stay as they are
pub uses_stay : MergeLaws (λ uses. uses)
uses_stay = record { none = refl; covers = λ uses r h. h; stamps = λ stamps uses h. h }
