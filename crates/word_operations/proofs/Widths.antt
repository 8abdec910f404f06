-- Powers of two and masks of a width.
use Rattle.std.proofs.Common.{◌≡◌, ℕ, ◌+◌, ◌-◌, ◌/◌, ◌%◌, ◌^◌, ◌≤◌, bit_and, ap, ◌∙◌, arith, pow_pos}
use Rattle.std.proofs.lemmas.Nat.{and_mask}
use Rattle.std.proofs.lemmas.Nat.Bits.{ones_shr}

-- the greatest number of w bits, from 64 ones
pub ones_of : (w : ℕ) → w ≤ 64 → (2 ^ 64 - 1) / 2 ^ (64 - w) + 1 ≡ 2 ^ w
ones_of w h =
    let low : 64 - w ≤ 64 = omega arith in
    let back : 64 - (64 - w) ≡ w = omega arith in
    let power : 2 ^ (64 - (64 - w)) ≡ 2 ^ w = ap (λ k. 2 ^ k) back in
    omega (arith, ones_shr 64 (64 - w) low, power, pow_pos w)

-- a mask keeps the lowest bits
pub and_greatest : (x g w : ℕ) → g + 1 ≡ 2 ^ w → bit_and x g ≡ x % 2 ^ w
and_greatest x g w e =
    let is : g ≡ 2 ^ w - 1 = omega arith in
    ap (bit_and x) is ∙ and_mask x w
