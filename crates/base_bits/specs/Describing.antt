-- Lemmas: what a word describes, bit by bit.
use Rattle.std.proofs.Common.{◌≡◌, ℕ, ◌-◌, ◌^◌, ◌<◌, ◌≤◌, min, max, inl, inr, refl, sym, ap, ◌∙◌, arith, pow_pos, bit_and}
use Rattle.std.specs.Int.{bit_at}
use Rattle.std.proofs.lemmas.Nat.{and_le_r, or_lt}
use Rattle.std.proofs.lemmas.Nat.Bits.{bit_at-lt, bit_at-zero, bit_at_and, bit_at_or, same_from_bits, same_from_bits_below}
use Rattle.base_bits.specs.Bitwise.{bit_cases, without_bit}
use Rattle.base_bits.specs.Known.{without, greatest, Describes, Fits, exact, any}
use Rattle.base_bits.specs.declared.known.Known.{Known}

pub without_le : (n m : ℕ) → without n m ≤ n
without_le n m = omega arith

-- a number has the known bits
pub known_bit : (w n : ℕ) (x : Known) → Describes w n x → (i : ℕ) → bit_at x.m i ≡ 0 → bit_at n i ≡ bit_at x.v i
known_bit w n x d i clear =
    let is = ap (λ z. bit_at z i) d.known in
    omega (arith, is, without_bit n x.m i, clear)

-- an unknown bit is 0 in v
pub unknown_bit : (w : ℕ) (x : Known) → Fits w x → (i : ℕ) → bit_at x.m i ≡ 1 → bit_at x.v i ≡ 0
unknown_bit w x fits i set =
    let none = ap (λ z. bit_at z i) fits.apart in
    omega (arith, none, bit_at_and x.v x.m i, bit_at-zero i, set, bit_at-lt x.v i)

-- a number that has them is described
pub describes_from : (w n : ℕ) (x : Known) → Fits w x → n < 2 ^ w
    → ((i : ℕ) → i < w → bit_at x.m i ≡ 0 → bit_at n i ≡ bit_at x.v i) → Describes w n x
describes_from w n x fits below h = record {
  below = below;
  known = same_from_bits_below w (without n x.m) x.v (omega (arith, without_le n x.m, below)) fits.known (λ i within. same i within);
}
  where
    same : (i : ℕ) → i < w → bit_at (without n x.m) i ≡ bit_at x.v i
    same i within =
        elim (bit_cases x.m i) [
          | inl clear ↦ omega (arith, without_bit n x.m i, clear, h i within clear)
          | inr set ↦ omega (arith, without_bit n x.m i, set, bit_at-lt n i, unknown_bit w x fits i set)
        ]

-- numbers without common bits
pub apart_from : (a b : ℕ) → ((i : ℕ) → bit_at a i ≡ 1 → bit_at b i ≡ 0) → bit_and a b ≡ 0
apart_from a b h = same_from_bits (bit_and a b) 0 (λ i. bit_at_and a b i ∙ none i ∙ sym (bit_at-zero i))
  where
    none : (i : ℕ) → min (bit_at a i) (bit_at b i) ≡ 0
    none i = elim (bit_cases a i) [ inl clear ↦ omega (arith, clear) | inr set ↦ omega (arith, h i set) ]

-- a word of known bits outside the unknown ones
pub fits_without : (w a m : ℕ) → a < 2 ^ w → m < 2 ^ w → Fits w (record { v = without a m; m = m })
fits_without w a m left right = record {
  known = omega (arith, without_le a m, left);
  unknown = right;
  apart = apart_from (without a m) m (λ i set. let is = without_bit a m i in omega (arith, is, set, bit_at-lt a i, bit_at-lt m i));
}

pub describes_without : (w a m n : ℕ) → a < 2 ^ w → m < 2 ^ w → n < 2 ^ w
    → ((i : ℕ) → i < w → bit_at m i ≡ 0 → bit_at n i ≡ bit_at a i) → Describes w n (record { v = without a m; m = m })
describes_without w a m n left right below h =
    describes_from w n (record { v = without a m; m = m }) (fits_without w a m left right) below
    (λ i within clear. h i within clear ∙ omega (arith, without_bit a m i, clear))

-- unknown bits outside the known ones
pub fits_outside : (w a b : ℕ) → a < 2 ^ w → b < 2 ^ w → Fits w (record { v = a; m = without b a })
fits_outside w a b left right = record {
  known = left;
  unknown = omega (arith, without_le b a, right);
  apart = apart_from a (without b a) (λ i set. let is = without_bit b a i in omega (arith, is, set, bit_at-lt b i));
}

pub describes_outside : (w a b n : ℕ) → a < 2 ^ w → b < 2 ^ w → n < 2 ^ w
    → ((i : ℕ) → i < w → bit_at b i - bit_at a i ≡ 0 → bit_at n i ≡ bit_at a i) → Describes w n (record { v = a; m = without b a })
describes_outside w a b n left right below h =
    describes_from w n (record { v = a; m = without b a }) (fits_outside w a b left right) below
    (λ i within clear. h i within (sym (without_bit b a i) ∙ clear))

-- ---- the words of one number and of every number
pub exact_fits : (w n : ℕ) → n < 2 ^ w → Fits w (exact n)
exact_fits w n below = record { known = below; unknown = pow_pos w; apart = apart_from n 0 (λ i set. bit_at-zero i) }

pub exact_describes : (w n : ℕ) → n < 2 ^ w → Describes w n (exact n)
exact_describes w n below = describes_from w n (exact n) (exact_fits w n below) below (λ i within clear. refl)

-- without unknown bits there is one number
pub exact_only : (w n : ℕ) (x : Known) → x.m ≡ 0 → Describes w n x → n ≡ x.v
exact_only w n x none d = same_from_bits n x.v (λ i. known_bit w n x d i (ap (λ z. bit_at z i) none ∙ bit_at-zero i))

pub any_fits : (w : ℕ) → Fits w (any w)
any_fits w = record { known = pow_pos w; unknown = omega (arith, pow_pos w); apart = apart_from 0 (2 ^ w - 1) (λ i set. absurd (omega (arith, set, bit_at-zero i))) }

-- ---- the least and the greatest number
pub greatest_bit : (x : Known) (i : ℕ) → bit_at (greatest x) i ≡ max (bit_at x.v i) (bit_at x.m i)
greatest_bit x i = bit_at_or x.v x.m i

pub greatest_below : (w : ℕ) (x : Known) → Fits w x → greatest x < 2 ^ w
greatest_below w x fits = or_lt w x.v x.m fits.known fits.unknown

pub least_describes : (w : ℕ) (x : Known) → Fits w x → Describes w x.v x
least_describes w x fits = describes_from w x.v x fits fits.known (λ i within clear. refl)

pub greatest_describes : (w : ℕ) (x : Known) → Fits w x → Describes w (greatest x) x
greatest_describes w x fits =
    describes_from w (greatest x) x fits (greatest_below w x fits) (λ i within clear. omega (arith, greatest_bit x i, clear))

-- each bit of the least is at most that of the number, and that at most the bit of the greatest
pub above_least : (w n : ℕ) (x : Known) → Fits w x → Describes w n x → (i : ℕ) → bit_at x.v i ≤ bit_at n i
above_least w n x fits d i =
    elim (bit_cases x.m i) [
      | inl clear ↦ omega (arith, known_bit w n x d i clear)
      | inr set ↦ omega (arith, unknown_bit w x fits i set)
    ]

pub below_greatest : (w n : ℕ) (x : Known) → Describes w n x → (i : ℕ) → bit_at n i ≤ bit_at (greatest x) i
below_greatest w n x d i =
    elim (bit_cases x.m i) [
      | inl clear ↦ omega (arith, greatest_bit x i, known_bit w n x d i clear)
      | inr set ↦ omega (arith, greatest_bit x i, set, bit_at-lt n i)
    ]

-- a number whose bits are at most another's is at most it
pub le_from_bits : (a b : ℕ) → ((i : ℕ) → bit_at a i ≤ bit_at b i) → a ≤ b
le_from_bits a b h =
    let is : bit_and a b ≡ a = same_from_bits (bit_and a b) a (λ i. bit_at_and a b i ∙ omega (arith, h i)) in
    omega (arith, is, and_le_r a b)
