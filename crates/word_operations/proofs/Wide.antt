-- Quotients and products of signed readings fit 128 bits.
use Rattle.std.proofs.Common.{◌≡◌, ℕ, zero, suc, ◌/◌, ◌^◌, ◌<◌, ◌≤◌, ◌≢◌, ℤ, pos, negsuc, ◌*ℤ◌, neg_ℤ, unsigned_abs, int_div, FitsSigned, refl, ap, ap₂, sym, subst₂, ◌∙◌, arith, div-le_self, lt_of_le_of_lt, of_z, to_z, to_z-of_z, pos_of_ne-zero}
use Rattle.std.proofs.lemmas.Int.{fits_signed_from_abs, fits_signed_mul}
use Rattle.std.specs.Int.{w128, int_shr}
use Rattle.std.specs.Int.Signed.{mag_shr}
use Rattle.word_operations.specs.Op2.{high_part}

pub abs-neg : (n : ℕ) → unsigned_abs (neg_ℤ (pos n)) ≡ n
abs-neg zero = refl
abs-neg (suc n) = refl

pub abs-div : (a d : ℤ) → unsigned_abs (int_div a d) ≤ unsigned_abs a
abs-div (pos a) (pos d) = div-le_self a d
abs-div (pos a) (negsuc d) = rw (abs-neg (a / suc d)) (div-le_self a (suc d))
abs-div (negsuc a) (pos d) = rw (abs-neg (suc a / d)) (div-le_self (suc a) d)
abs-div (negsuc a) (negsuc d) = div-le_self (suc a) (suc d)

small_fits : (z : ℤ) → unsigned_abs z ≤ 2 ^ 63 → FitsSigned w128 z
small_fits z small = fits_signed_from_abs w128 z (omega arith)

bits_positive : (d : ℤ) → unsigned_abs d ≤ 2 ^ 63 → d ≢ pos 0 → 0 < of_z w128 d
bits_positive (pos n) small nonzero = pos_of_ne-zero (λ e. nonzero (ap pos e))
bits_positive (negsuc n) small nonzero = omega arith

-- what a quotient at 128 bits asks
pub can_divide : (a d : ℤ) → unsigned_abs a ≤ 2 ^ 63 → unsigned_abs d ≤ 2 ^ 63 → d ≢ pos 0
    → (0 < of_z w128 d) × FitsSigned w128 (int_div (to_z w128 (of_z w128 a)) (to_z w128 (of_z w128 d)))
can_divide a d small small_divisor nonzero =
    let quotient : FitsSigned w128 (int_div a d) = small_fits (int_div a d) (omega (arith, abs-div a d)) in (
      bits_positive d small_divisor nonzero,
      subst₂ (λ p q. FitsSigned w128 (int_div p q))
          (sym (to_z-of_z (small_fits a small))) (sym (to_z-of_z (small_fits d small_divisor))) quotient,
    )

shr_is : (z : ℤ) (n : ℕ) → int_shr z n ≡ high_part z n
shr_is (pos a) n = refl
shr_is (negsuc a) n = refl

-- the high part of a product at 128 bits is exact
pub product_shr : (a b : ℤ) (n : ℕ) → unsigned_abs a ≤ 2 ^ 63 → unsigned_abs b ≤ 2 ^ 63
    → to_z w128 (of_z w128 (int_shr (to_z w128 (of_z w128 (to_z w128 (of_z w128 a) *ℤ to_z w128 (of_z w128 b)))) n)) ≡ high_part (a *ℤ b) n
product_shr a b n small small_too =
    let product : FitsSigned w128 (a *ℤ b) = fits_signed_mul w128 a b (2 ^ 63) (2 ^ 63) small small_too (omega arith) in
    let shifted : FitsSigned w128 (int_shr (a *ℤ b) n) = record { sfits = lt_of_le_of_lt (mag_shr (a *ℤ b) (2 ^ n)) product.sfits } in
    let factors : to_z w128 (of_z w128 a) *ℤ to_z w128 (of_z w128 b) ≡ a *ℤ b =
    ap₂ (λ p q. p *ℤ q) (to_z-of_z (small_fits a small)) (to_z-of_z (small_fits b small_too)) in
    let exact : to_z w128 (of_z w128 (to_z w128 (of_z w128 a) *ℤ to_z w128 (of_z w128 b))) ≡ a *ℤ b =
    ap (λ z. to_z w128 (of_z w128 z)) factors ∙ to_z-of_z product in
    ap (λ z. to_z w128 (of_z w128 (int_shr z n))) exact ∙ to_z-of_z shifted ∙ shr_is (a *ℤ b) n
