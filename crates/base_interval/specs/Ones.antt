-- Numbers whose digits are all 1.
use Rattle.std.proofs.Common.{◌≡◌, ℕ, zero, suc, ◌+◌, ◌-◌, ◌*◌, ◌^◌, ◌<◌, ◌≤◌, if◌then◌else◌, refl, arith, pow_pos}
use Rattle.std.specs.Prelude.{nat_le}
use Rattle.std.proofs.Math.Nat.{pow-succ'}
use Rattle.std.proofs.lemmas.Bool.Decides.{nat_tests}
use Rattle.base_trait.proofs.Tests.{at_choice}

-- the least 2 ^ i - 1 that is at least n, for n of w bits
abbrev pub ones_over : ℕ → ℕ → ℕ
ones_over zero n = 0
ones_over (suc i) n = if nat_le (2 ^ i) n then 2 ^ suc i - 1 else ones_over i n

-- it is such a number, of as many digits as n has
pub record HasDigits (n ones : ℕ) : Type 0 where
  pub digits : ℕ
  pub ones_are : ones + 1 ≡ 2 ^ digits
  pub below : n < 2 ^ digits
  pub least : 2 ^ digits ≤ 2 * n + 1

pub ones_over_digits : (w n : ℕ) → n < 2 ^ w → HasDigits n (ones_over w n)
ones_over_digits zero n h = record { digits = 0; ones_are = refl; below = h; least = omega arith }
ones_over_digits (suc i) n h =
    at_choice (λ r. HasDigits n r) (nat_le (2 ^ i) n) (2 ^ suc i - 1) (ones_over i n)
    (λ e. let twice = pow-succ' 2 i in let over : 2 ^ i ≤ n = grind (arith, nat_tests) in record { digits = suc i; ones_are = omega (arith, pow_pos (suc i)); below = h; least = omega arith })
    (λ e. ones_over_digits i n (grind (arith, nat_tests)))

-- it is a word
pub ones_over_fits : (w n : ℕ) → ones_over w n < 2 ^ w
ones_over_fits zero n = omega arith
ones_over_fits (suc i) n =
    at_choice (λ r. r < 2 ^ suc i) (nat_le (2 ^ i) n) (2 ^ suc i - 1) (ones_over i n)
    (λ e. omega (arith, pow_pos (suc i)))
    (λ e. omega (arith, ones_over_fits i n, pow-succ' 2 i))
