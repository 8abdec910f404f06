-- Lemmas: ranges.
use Rattle.std.proofs.Common.{◌≡◌, ℕ, ◌+◌, ◌-◌, ◌*◌, ◌/◌, ◌^◌, ◌<◌, ◌≤◌, inl, inr, sym, ap, ◌∙◌, arith, pow_pos, pow_mono, pow-add, bit_xor, div-mul-le_self}
use Rattle.std.specs.Int.{bit_at, w64, leading_zeros}
use Rattle.std.proofs.Math.Nat.{div-eq_of_lt}
use Rattle.std.proofs.lemmas.Bool.{cases_lt}
use Rattle.std.proofs.lemmas.Nat.{le-div, xor_lt, xor_shr, leading_length}
use Rattle.std.proofs.lemmas.Nat.Bits.{bit_at-zero, bit_at_ones, same_from_bits}
use Rattle.base_bits.specs.Known.{Describes, Fits}
use Rattle.base_bits.specs.Describing.{fits_without, describes_without}
use Rattle.base_bits.specs.Moves.{shifted_right}
use Rattle.base_bits.specs.Range.{range_of, all_to_highest}
use Rattle.base_bits.specs.Sums.{xor_clear}

-- the mask of a difference: k bits hold it, and no fewer do
pub record IsMask (n k : ℕ) : Type 0 where
  pub is : all_to_highest n ≡ 2 ^ k - 1
  pub holds : n < 2 ^ k
  pub least : 2 ^ k ≤ 2 * n + 1

pub mask_of : (n : ℕ) → n < 2 ^ 64 → (k : ℕ) × IsMask n k
mask_of n below =
    let l = leading_length 64 n below in
    let length : 64 - leading_zeros w64 n ≡ l.0 = let sum = l.1 in omega (arith, sum) in
    (l.0, record { is = ap (λ k. 2 ^ k - 1) length; holds = l.2; least = l.3 })

quotient_le : (a b k : ℕ) → a ≤ b → a / 2 ^ k ≤ b / 2 ^ k
quotient_le a b k less = le-div (a / 2 ^ k) b (2 ^ k) (pow_pos k) (omega (arith, less, div-mul-le_self a (2 ^ k)))

module _ (w low high : ℕ) (width : w ≤ 64) (order : low ≤ high) (below : high < 2 ^ w) where
  low_below : low < 2 ^ w
  low_below = omega (arith, order, below)

  change_below : bit_xor low high < 2 ^ w
  change_below = xor_lt w low high low_below below

  mask : (k : ℕ) × IsMask (bit_xor low high) k
  mask = mask_of (bit_xor low high) (omega (arith, change_below, pow_mono width))

  mask_below : all_to_highest (bit_xor low high) < 2 ^ w
  mask_below =
      let m = mask in
      elim (cases_lt w m.0) [
        | inl more ↦
            let past : 2 ^ (w + 1) ≤ 2 ^ m.0 = pow_mono (omega (arith, more)) in
            let twice : 2 ^ (w + 1) ≡ 2 ^ w * 2 = pow-add 2 w 1 in
            let least = m.1.least in
            absurd (omega (arith, past, twice, least, change_below))
        | inr fits ↦ let less : 2 ^ m.0 ≤ 2 ^ w = pow_mono fits in let is = m.1.is in omega (arith, less, is, pow_pos m.0)
      ]

  pub range_fits : Fits w (range_of low high)
  range_fits = fits_without w low (all_to_highest (bit_xor low high)) low_below mask_below

  -- the bits past the mask are the same in both ends
  high_same : (k : ℕ) → bit_xor low high < 2 ^ k → low / 2 ^ k ≡ high / 2 ^ k
  high_same k holds =
      let none : bit_xor (low / 2 ^ k) (high / 2 ^ k) ≡ 0 = sym (xor_shr low high k) ∙ div-eq_of_lt holds in
      same_from_bits (low / 2 ^ k) (high / 2 ^ k) (λ i. xor_clear (low / 2 ^ k) (high / 2 ^ k) i (ap (λ z. bit_at z i) none ∙ bit_at-zero i))

  pub range_sound : (n : ℕ) → low ≤ n → n ≤ high → Describes w n (range_of low high)
  range_sound n from to = describes_without w low (all_to_highest (bit_xor low high)) n low_below mask_below (omega (arith, to, below)) at
    where
      at : (i : ℕ) → i < w → bit_at (all_to_highest (bit_xor low high)) i ≡ 0 → bit_at n i ≡ bit_at low i
      at i within clear =
          let m = mask in
          let k = m.0 in
          elim (cases_lt i k) [
            | inl inside ↦ let set = ap (λ z. bit_at z i) m.1.is ∙ bit_at_ones k i inside in absurd (omega (arith, set, clear))
            | inr past ↦
                let ends = high_same k m.1.holds in
                let same : n / 2 ^ k ≡ low / 2 ^ k = omega (arith, quotient_le low n k from, quotient_le n high k to, ends) in
                let place : i - k + k ≡ i = omega (arith, past) in
                sym (shifted_right n k (i - k) ∙ ap (bit_at n) place) ∙ ap (λ z. bit_at z (i - k)) same ∙ shifted_right low k (i - k) ∙ ap (bit_at low) place
          ]
