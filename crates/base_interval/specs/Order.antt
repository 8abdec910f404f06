-- Comparisons by an order, of the numbers or of the signed readings.
use Rattle.std.proofs.Common.{◌≡◌, ℕ, ◌-◌, ◌*◌, ◌^◌, ◌<◌, ◌≤◌, Bool, true, false, not, ◌≤ℤ◌, if◌then◌else◌, IsTrue, arith, refl, inl, inr, pow_pos}
use Rattle.std.proofs.lemmas.Bool.{cases_lt}
use Rattle.std.proofs.lemmas.Bool.Decides.{nat_tests}
use Rattle.std.proofs.lemmas.Int.{ints}
use Rattle.word_operations.specs.declared.kinds.WordComparison.{WordComparison}
use Rattle.word_operations.specs.declared.kinds.WordComparison.TheVariants.{LtU, LeU, LtS, LeS}
use Rattle.word_operations.specs.Cmp.{cmp_of}
use Rattle.word_operations.specs.Signed.{signed}
use Rattle.word_operations.specs.Width.{IsWidth}
use Rattle.word_operations.proofs.Bounds.{signed_mono, signed_apart}
use Rattle.word_operations.proofs.OrderLaws.{signed_order}
use Rattle.word_operations.proofs.Readings.{twice_half}
use Rattle.base_trait.proofs.Tests.{at_choice}
use Rattle.base_trait.specs.declared.tri.Tri.{Tri}
use Rattle.base_interval.specs.Outcomes.{IsExactAt}
use Rattle.base_interval.specs.Range.{Holds, Fits}
use Rattle.base_interval.specs.Signs.{crosses}
use Rattle.base_interval.specs.declared.range.Range.{Range}

-- the least and the greatest number
abbrev pub ends : Range → ℕ × ℕ
ends x = (x.lo, x.hi)

-- The words of the least and of the greatest signed reading: where some sign bits are set and some are not,
-- those of the width.
abbrev pub signed_ends : ℕ → Range → ℕ × ℕ
signed_ends w x = if crosses w x then (2 ^ (w - 1), 2 ^ (w - 1) - 1) else (x.lo, x.hi)

-- true where it is of the least and the greatest, and false where it is of the greatest and the least
abbrev pub by_order : WordComparison → ℕ → ℕ × ℕ → ℕ × ℕ → Tri
by_order k w p q = record { may_true = cmp_of k w p.0 q.1; may_false = not (cmp_of k w p.1 q.0) }

-- ---- any order of numbers
-- two held numbers, between which the others are
pub record AreEnds (below : ℕ → ℕ → Type 0) (x : Range) (p : ℕ × ℕ) : Type 0 where
  pub least_held : Holds x p.0
  pub greatest_held : Holds x p.1
  pub least : (n : ℕ) → Holds x n → below p.0 n
  pub greatest : (n : ℕ) → Holds x n → below n p.1

-- what a comparison says of two words it says of a lesser and a greater one
abbrev pub Spreads : (ℕ → ℕ → Type 0) → WordComparison → ℕ → Type 0
Spreads below k w = (m m' n n' : ℕ) → below m' m → below n n' → IsTrue (cmp_of k w m n) → IsTrue (cmp_of k w m' n')

denied : (c : Bool) → IsTrue (not c) → c ≡ false
denied true h = cc
denied false h = refl

untrue : (b c : Bool) → (IsTrue c → IsTrue b) → b ≡ false → IsTrue (not c)
untrue true c s e = cc
untrue false true s e = s refl
untrue false false s e = refl

pub order_exact : (below : ℕ → ℕ → Type 0) (k : WordComparison) (w : ℕ) (x y : Range) (p q : ℕ × ℕ)
    → Spreads below k w → AreEnds below x p → AreEnds below y q → IsExactAt k w x y (by_order k w p q)
order_exact below k w x y p q spreads f g true = (
  λ h. (p.0, q.1, f.least_held, g.greatest_held, h),
  λ h. spreads h.0 p.0 h.1 q.1 (f.least h.0 h.2) (g.greatest h.1 h.3) h.4,
)
order_exact below k w x y p q spreads f g false = (
  λ h. (p.1, q.0, f.greatest_held, g.least_held, denied (cmp_of k w p.1 q.0) h),
  λ h. untrue (cmp_of k w h.0 h.1) (cmp_of k w p.1 q.0) (λ e. spreads p.1 h.0 q.0 h.1 (f.greatest h.0 h.2) (g.least h.1 h.3) e) h.4,
)

-- ---- the order of the numbers
pub ends_are : (x : Range) → x.lo ≤ x.hi → AreEnds (λ m n. m ≤ n) x (ends x)
ends_are x fits = record {
  least_held = (omega arith, fits);
  greatest_held = (fits, omega arith);
  least = λ n h. h.0;
  greatest = λ n h. h.1;
}

pub lt_u_spreads : (w : ℕ) → Spreads (λ m n. m ≤ n) LtU w
lt_u_spreads w m m' n n' left right h = grind (arith, nat_tests)

pub le_u_spreads : (w : ℕ) → Spreads (λ m n. m ≤ n) LeU w
le_u_spreads w m m' n n' left right h = grind (arith, nat_tests)

-- ---- the order of the signed readings
abbrev pub SignedBelow : ℕ → ℕ → ℕ → Type 0
SignedBelow w m n = signed w m ≤ℤ signed w n

-- 2 ^ (w - 1) is the word of the least reading, and the one before it that of the greatest
least_of_all : (w n : ℕ) → IsWidth w → n < 2 ^ w → SignedBelow w (2 ^ (w - 1)) n
least_of_all w n width below =
    let half = twice_half w width.0 in
    elim (cases_lt (2 * n) (2 ^ w)) [
      | inl low ↦ let less = signed_apart w (2 ^ (w - 1)) n (omega arith) (omega arith) low in omega (arith, ints)
      | inr high ↦ signed_mono w (2 ^ (w - 1)) n (omega arith) below (λ top. omega arith)
    ]

greatest_of_all : (w n : ℕ) → IsWidth w → n < 2 ^ w → SignedBelow w n (2 ^ (w - 1) - 1)
greatest_of_all w n width below =
    let half = twice_half w width.0 in
    let some = pow_pos (w - 1) in
    elim (cases_lt (2 * n) (2 ^ w)) [
      | inl low ↦ signed_mono w n (2 ^ (w - 1) - 1) (omega arith) (omega arith) (λ top. absurd (omega arith))
      | inr high ↦ let less = signed_apart w n (2 ^ (w - 1) - 1) below high (omega arith) in omega (arith, ints)
    ]

pub signed_ends_are : (w : ℕ) (x : Range) → IsWidth w → Fits w x → AreEnds (SignedBelow w) x (signed_ends w x)
signed_ends_are w x width fits =
    let order = fits.0 in let below = fits.1 in
    let half = twice_half w width.0 in
    at_choice (AreEnds (SignedBelow w) x) (crosses w x) (2 ^ (w - 1), 2 ^ (w - 1) - 1) (x.lo, x.hi)
    (λ e.
    let low : 2 * x.lo < 2 ^ w = grind (arith, nat_tests) in
    let high : 2 ^ w ≤ 2 * x.hi = grind (arith, nat_tests) in
    record {
      least_held = (omega arith, omega arith);
      greatest_held = (omega arith, omega arith);
      least = λ n h. let held = h.1 in least_of_all w n width (omega arith);
      greatest = λ n h. let held = h.1 in greatest_of_all w n width (omega arith);
    })
    (λ e.
    let sign : 2 ^ w ≤ 2 * x.hi → 2 ^ w ≤ 2 * x.lo = λ top. grind (arith, nat_tests) in
    record {
      least_held = (omega arith, order);
      greatest_held = (order, omega arith);
      least = λ n h. let held = h.1 in signed_mono w x.lo n h.0 (omega arith) (λ top. sign (omega arith));
      greatest = λ n h. let held = h.0 in signed_mono w n x.hi h.1 below (λ top. let first = sign top in omega arith);
    })

pub lt_s_spreads : (w : ℕ) → Spreads (SignedBelow w) LtS w
lt_s_spreads w m m' n n' left right h =
    let strict = ((signed_order w).1 m n).0.0 h in
    ((signed_order w).1 m' n').0.1 (omega (arith, ints))

pub le_s_spreads : (w : ℕ) → Spreads (SignedBelow w) LeS w
le_s_spreads w m m' n n' left right h =
    let order = ((signed_order w).1 m n).1.0 h in
    ((signed_order w).1 m' n').1.1 (omega (arith, ints))
