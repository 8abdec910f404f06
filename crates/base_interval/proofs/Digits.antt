-- How many digits a word has.
use Rattle.std.proofs.Common.{◌≡◌, ℕ, suc, ◌+◌, ◌-◌, ◌*◌, ◌/◌, ◌^◌, ◌<◌, ◌≤◌, ap, ◌∙◌, inl, inr, arith, pow_mono}
use Rattle.std.specs.Int.Count.{count_leading_zeros}
use Rattle.std.proofs.Math.Nat.{pow-succ'}
use Rattle.std.proofs.lemmas.Bool.{cases_lt}
use Rattle.std.proofs.lemmas.Nat.{leading_length}
use Rattle.std.proofs.lemmas.Nat.Bits.{ones_shr}
use Rattle.word_operations.specs.Width.{IsWidth}
use Rattle.base_interval.specs.Ones.{ones_over, ones_over_digits}

more_digits : (a b n : ℕ) → a < b → n < 2 ^ a → ¬ (2 ^ b ≤ 2 * n + 1)
more_digits a b n less below h =
    let more : 2 ^ suc a ≤ 2 ^ b = pow_mono (omega arith) in
    let twice = pow-succ' 2 a in
    omega arith

-- a number has so many digits and no other count
same_digits : (a b n : ℕ) → n < 2 ^ a → 2 ^ a ≤ 2 * n + 1 → n < 2 ^ b → 2 ^ b ≤ 2 * n + 1 → a ≡ b
same_digits a b n below least below_too least_too =
    elim (cases_lt a b) [
      | inl less ↦ absurd (more_digits a b n less below least_too)
      | inr more ↦
          elim (cases_lt b a) [
            | inl less ↦ absurd (more_digits b a n less below_too least)
            | inr more_too ↦ omega arith
          ]
    ]

-- w ones without the zeros that a word of w bits begins with
pub ones_left : (w n : ℕ) → IsWidth w → n < 2 ^ w
    → (64 - w ≤ count_leading_zeros 64 n) × ((2 ^ w - 1) / 2 ^ (count_leading_zeros 64 n - (64 - w)) ≡ ones_over w n)
ones_left w n width below =
    let wide = width.1 in
    let room : 2 ^ w ≤ 2 ^ 64 = pow_mono wide in
    let length = leading_length 64 n (omega arith) in
    let count = length.1 in
    let digits = ones_over_digits w n below in
    let same = same_digits length.0 digits.digits n length.2 length.3 digits.below digits.least in
    let within : length.0 ≤ w =
    elim (cases_lt w length.0) [
      | inl less ↦ absurd (more_digits w length.0 n less below length.3)
      | inr more ↦ more
    ] in
    let places : count_leading_zeros 64 n - (64 - w) ≡ w - length.0 = omega arith in
    let back : w - (w - length.0) ≡ digits.digits = omega arith in
    let power : 2 ^ (w - (w - length.0)) ≡ 2 ^ digits.digits = ap (λ k. 2 ^ k) back in
    let whole = digits.ones_are in
    (omega arith, ap (λ k. (2 ^ w - 1) / 2 ^ k) places ∙ ones_shr w (w - length.0) (omega arith) ∙ omega arith)
