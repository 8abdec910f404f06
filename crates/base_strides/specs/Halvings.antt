-- How often a number can be halved.
use Rattle.std.proofs.Common.{◌≡◌, ℕ, zero, suc, ◌+◌, ◌*◌, ◌/◌, ◌<◌, ◌≤◌, ◌^◌, arith}
use Rattle.std.specs.Prelude.{nat_lt}
use Rattle.std.specs.Int.{◌∣◌}
use Rattle.std.proofs.Math.Nat.{div-mul_cancel}
use Rattle.std.proofs.lemmas.Bool.Decides.{nat_tests}
use Rattle.base_trait.proofs.Tests.{at_choice}
use Rattle.base_strides.specs.Meaning.{halvings}

pub halvings_le : (w n : ℕ) → halvings w n ≤ w
halvings_le zero n = omega arith
halvings_le (suc w) n = at_choice (λ z. z ≤ suc w) (nat_lt n 2) 0 (1 + halvings w (n / 2)) (λ e. omega arith) (λ e. let less = halvings_le w (n / 2) in omega (arith, less))

-- one more turn changes nothing below 2 ^ w
halvings_more : (w a c : ℕ) → a ≤ c → c < 2 ^ w → halvings (suc w) a ≤ halvings w c
halvings_more zero a c h l = at_choice (λ z. z ≤ 0) (nat_lt a 2) 0 (1 + halvings 0 (a / 2)) (λ e. omega arith) (λ e. absurd (grind (arith, nat_tests)))
halvings_more (suc w) a c h l =
    at_choice (λ z. z ≤ halvings (suc w) c) (nat_lt a 2) 0 (1 + halvings (suc w) (a / 2)) (λ e. omega arith)
    (λ e.
    at_choice (λ z. 1 + halvings (suc w) (a / 2) ≤ z) (nat_lt c 2) 0 (1 + halvings w (c / 2)) (λ f. absurd (grind (arith, nat_tests)))
    (λ f. let rest = halvings_more w (a / 2) (c / 2) (omega arith) (omega arith) in omega (arith, rest)))

pub halvings_less : (w a b : ℕ) → 1 ≤ a → 2 * a ≤ b → b < 2 ^ w → halvings w a < halvings w b
halvings_less zero a b some h l = absurd (omega arith)
halvings_less (suc w) a b some h l =
    at_choice (λ z. halvings (suc w) a < z) (nat_lt b 2) 0 (1 + halvings w (b / 2)) (λ e. absurd (grind (arith, nat_tests)))
    (λ e. let rest = halvings_more w a (b / 2) (omega arith) (omega arith) in omega (arith, rest))

-- a divisor that is not the number is at most its half
pub divisor_half : (d n : ℕ) → 1 ≤ n → d ∣ n → (d ≡ n → ⊥) → (1 ≤ d) × (2 * d ≤ n)
divisor_half d n some h other = at_count (n / d) (div-mul_cancel d h)
  where
    at_count : (q : ℕ) → q * d ≡ n → (1 ≤ d) × (2 * d ≤ n)
    at_count zero e = absurd (omega (arith, e))
    at_count (suc zero) e = absurd (other (omega (arith, e)))
    at_count (suc (suc q)) e = at_divisor d e
      where
        at_divisor : (d : ℕ) → suc (suc q) * d ≡ n → (1 ≤ d) × (2 * d ≤ n)
        at_divisor zero e = absurd (omega (arith, e))
        at_divisor (suc d) e = (omega arith, omega (arith, e))
