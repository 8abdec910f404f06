-- Equality of numbers of two intervals.
use Rattle.std.proofs.Common.{◌≡◌, ℕ, ◌≤◌, Bool, true, false, not, max, IsTrue, arith, ap, inl, inr}
use Rattle.std.specs.Prelude.{◌==◌, ◌&&◌, nat_le}
use Rattle.std.proofs.lemmas.Bool.Decides.{nat_tests}
use Rattle.word_operations.specs.declared.kinds.WordComparison.TheVariants.{Eq, Ne}
use Rattle.base_trait.proofs.Tests.{decide}
use Rattle.base_trait.specs.declared.tri.Tri.{Tri}
use Rattle.base_interval.specs.Outcomes.{IsExactAt}
use Rattle.base_interval.specs.Range.{Holds, is_one}
use Rattle.base_interval.specs.declared.range.Range.{Range}

-- may be true where the intervals meet, and false unless both hold the same one number
abbrev pub equality : Range → Range → Tri
equality x y = record {
  may_true = nat_le x.lo y.hi && nat_le y.lo x.hi;
  may_false = not (is_one x && is_one y && x.lo == y.lo);
}

-- the other way
abbrev pub inequality : Range → Range → Tri
inequality x y = record { may_true = (equality x y).may_false; may_false = (equality x y).may_true }

abbrev ApartNumbers : Range → Range → Type 0
ApartNumbers x y = (m : ℕ) × (n : ℕ) × Holds x m × Holds y n × ((m == n) ≡ false)

apart : (x y : Range) → x.lo ≤ x.hi → y.lo ≤ y.hi → IsTrue (not (is_one x && is_one y && x.lo == y.lo)) → ApartNumbers x y
apart x y fx fy h =
    elim (decide (x.lo == y.lo)) as (λ _. ApartNumbers x y) [
      | inr e ↦ (x.lo, y.lo, (omega arith, fx), (omega arith, fy), e)
      | inl e ↦
          elim (decide (x.lo == x.hi)) as (λ _. ApartNumbers x y) [
            | inr f ↦ (x.hi, y.lo, (fx, omega arith), (omega arith, fy), grind (arith, nat_tests))
            | inl f ↦ (x.lo, y.hi, (omega arith, fx), (fy, omega arith), grind (arith, nat_tests))
          ]
    ]

pub equality_exact : (w : ℕ) (x y : Range) → x.lo ≤ x.hi → y.lo ≤ y.hi → IsExactAt Eq w x y (equality x y)
equality_exact w x y fx fy true = (
  λ h.
      let first : x.lo ≤ y.hi = grind (arith, nat_tests) in
      let second : y.lo ≤ x.hi = grind (arith, nat_tests) in
      (max x.lo y.lo, max x.lo y.lo, (omega arith, omega arith), (omega arith, omega arith), grind (arith, nat_tests)),
  λ h. let a = h.2 in let b = h.3 in let e = h.4 in grind (arith, nat_tests),
)
equality_exact w x y fx fy false = (
  λ h. apart x y fx fy h,
  λ h. let a = h.2 in let b = h.3 in let e = h.4 in grind (arith, nat_tests),
)

turned : (b c : Bool) → not b ≡ c → b ≡ not c
turned true c e = ap not e
turned false c e = ap not e

pub inequality_exact : (w : ℕ) (x y : Range) → x.lo ≤ x.hi → y.lo ≤ y.hi → IsExactAt Ne w x y (inequality x y)
inequality_exact w x y fx fy true = (
  λ h. let s = (equality_exact w x y fx fy false).0 h in (s.0, s.1, s.2, s.3, ap not s.4),
  λ h. (equality_exact w x y fx fy false).1 (h.0, h.1, h.2, h.3, turned (h.0 == h.1) true h.4),
)
inequality_exact w x y fx fy false = (
  λ h. let s = (equality_exact w x y fx fy true).0 h in (s.0, s.1, s.2, s.3, ap not s.4),
  λ h. (equality_exact w x y fx fy true).1 (h.0, h.1, h.2, h.3, turned (h.0 == h.1) false h.4),
)
