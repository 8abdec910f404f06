-- Sums, differences and products of words, of either reading.
use Rattle.std.proofs.Common.{◌≡◌, ℕ, suc, ◌+◌, ◌-◌, ◌*◌, ◌/◌, ◌%◌, ◌^◌, ◌<◌, ◌≤◌, ℤ, pos, negsuc, ◌+ℤ◌, ◌-ℤ◌, ◌*ℤ◌, ap, ap₂, sym, ◌∙◌, inl, inr, arith, pow_pos, div-add-mod', unsigned_abs, mul-pos, div-lt_iff_lt-mul}
use Rattle.std.proofs.lemmas.Nat.{mul-le}
use Rattle.std.proofs.Math.Nat.{add-mod-mod, mod_self}
use Rattle.std.proofs.lemmas.Bool.{cases_lt}
use Rattle.std.proofs.lemmas.Int.{ints, unsigned_abs-mul}
use Rattle.word_operations.specs.Laws.{SameForBothReadings, NegationUndoes, UnsignedHalves, SignedHalves}
use Rattle.word_operations.specs.Op2.{high_part}
use Rattle.word_operations.specs.Signed.{signed, unsigned, IsReading}
use Rattle.word_operations.proofs.Readings.{signed_low, signed_negative, signed_off, unsigned_from, unsigned_pos, signed-unsigned, signed_abs, high_part-unsigned, twice_half, reading_pos, reading_negsuc}

sum_same : (w x y : ℕ) → (x + y) % 2 ^ w ≡ unsigned w (signed w x +ℤ signed w y)
sum_same w x y =
    let a = signed_off w x in
    let b = signed_off w y in
    sym (unsigned_from w (signed w x +ℤ signed w y) (a.0 + b.0) (x + y) (omega (arith, ints, a.2, b.2)))

difference_same : (w x y : ℕ) → y < 2 ^ w → (x + 2 ^ w - y) % 2 ^ w ≡ unsigned w (signed w x -ℤ signed w y)
difference_same w x y below =
    let a = signed_off w x in
    let b = signed_off w y in
    let turns : 1 + a.0 - b.0 + b.0 ≡ 1 + a.0 = omega (arith, b.1) in
    let parts : (1 + a.0 - b.0 + b.0) * 2 ^ w ≡ (1 + a.0) * 2 ^ w = ap (λ k. k * 2 ^ w) turns in
    sym (unsigned_from w (signed w x -ℤ signed w y) (1 + a.0 - b.0) (x + 2 ^ w - y) (omega (arith, ints, a.2, b.2, parts)))

one_high : (m x y p : ℕ) → y + p ≡ m → x * m ≡ x * y + x * p
one_high m x y p e = let whole : x * m ≡ x * (y + p) = ap (λ k. x * k) (sym e) in omega arith

both_high : (m x y p q k : ℕ) → x + p ≡ m → y + q ≡ m → k + m ≡ x + y → p * q + k * m ≡ x * y
both_high m x y p q k left right sum =
    let e1 : x * m ≡ x * (y + q) = ap (λ t. x * t) (sym right) in
    let e2 : y * m ≡ y * (x + p) = ap (λ t. y * t) (sym left) in
    let e3 : m * m ≡ (x + p) * (y + q) = ap₂ (λ s t. s * t) (sym left) (sym right) in
    let e4 : (k + m) * m ≡ (x + y) * m = ap (λ t. t * m) sum in
    omega arith

product_same : (w x y : ℕ) → x < 2 ^ w → y < 2 ^ w → x * y % 2 ^ w ≡ unsigned w (signed w x *ℤ signed w y)
product_same w x y left right =
    elim (cases_lt (2 * x) (2 ^ w)) [
      | inl low ↦
          elim (cases_lt (2 * y) (2 ^ w)) [
            | inl low_too ↦ sym (ap₂ (λ p q. unsigned w (p *ℤ q)) (signed_low w x low) (signed_low w y low_too) ∙ unsigned_pos w (x * y))
            | inr high ↦
                let rest : y + suc (2 ^ w - suc y) ≡ 2 ^ w = omega arith in
                sym (ap₂ (λ p q. unsigned w (p *ℤ q)) (signed_low w x low) (signed_negative w y high right)
                ∙ unsigned_from w (pos x *ℤ negsuc (2 ^ w - suc y)) x (x * y) (omega (arith, ints, one_high (2 ^ w) x y (suc (2 ^ w - suc y)) rest)))
          ]
      | inr high ↦
          let rest : x + suc (2 ^ w - suc x) ≡ 2 ^ w = omega arith in
          elim (cases_lt (2 * y) (2 ^ w)) [
            | inl low ↦
                sym (ap₂ (λ p q. unsigned w (p *ℤ q)) (signed_negative w x high left) (signed_low w y low)
                ∙ unsigned_from w (negsuc (2 ^ w - suc x) *ℤ pos y) y (x * y) (omega (arith, ints, one_high (2 ^ w) y x (suc (2 ^ w - suc x)) rest)))
            | inr high_too ↦
                let rest_too : y + suc (2 ^ w - suc y) ≡ 2 ^ w = omega arith in
                let turns : x + y - 2 ^ w + 2 ^ w ≡ x + y = omega arith in
                sym (ap₂ (λ p q. unsigned w (p *ℤ q)) (signed_negative w x high left) (signed_negative w y high_too right)
                ∙ unsigned_from w (negsuc (2 ^ w - suc x) *ℤ negsuc (2 ^ w - suc y)) (x + y - 2 ^ w) (x * y)
                (ap pos (both_high (2 ^ w) x y (suc (2 ^ w - suc x)) (suc (2 ^ w - suc y)) (x + y - 2 ^ w) rest rest_too turns)))
          ]
    ]

pub same_for_both_readings : SameForBothReadings
same_for_both_readings w x y left right = (sum_same w x y, difference_same w x y right, product_same w x y left right)

pub negation_undoes : NegationUndoes
negation_undoes w x y left right =
    let whole : x + (2 ^ w - x) ≡ 2 ^ w = omega arith in
    let apart : x + 2 ^ w - y ≡ x + (2 ^ w - y) = omega arith in (
      add-mod-mod x (2 ^ w - x) (2 ^ w) ∙ ap (λ k. k % 2 ^ w) whole ∙ mod_self (2 ^ w),
      ap (λ k. k % 2 ^ w) apart ∙ sym (add-mod-mod x (2 ^ w - y) (2 ^ w)),
    )

quotient_below : (w n : ℕ) → 1 ≤ w → n ≤ 2 ^ (w - 1) * 2 ^ (w - 1) → n / 2 ^ w < 2 ^ (w - 1)
quotient_below w n positive bound =
    let half : 2 ^ (w - 1) * 2 ^ w ≡ 2 ^ (w - 1) * (2 * 2 ^ (w - 1)) = ap (λ k. 2 ^ (w - 1) * k) (twice_half w positive) in
    let some : 0 < 2 ^ (w - 1) * 2 ^ (w - 1) = mul-pos (pow_pos (w - 1)) (pow_pos (w - 1)) in
    (div-lt_iff_lt-mul (pow_pos w)).1 (omega arith)

high_part_reading : (w : ℕ) (z : ℤ) → 1 ≤ w → unsigned_abs z ≤ 2 ^ (w - 1) * 2 ^ (w - 1) → IsReading w (high_part z w)
high_part_reading w (pos n) positive bound =
    reading_pos w (n / 2 ^ w) positive (omega (arith, quotient_below w n positive bound, twice_half w positive))
high_part_reading w (negsuc n) positive bound =
    reading_negsuc w (n / 2 ^ w) positive (omega (arith, quotient_below w n positive (omega arith), twice_half w positive))

-- the high half of a product of readings is a reading
pub product_reading : (w x y : ℕ) → 1 ≤ w → x < 2 ^ w → y < 2 ^ w → IsReading w (high_part (signed w x *ℤ signed w y) w)
product_reading w x y positive left right =
    high_part_reading w (signed w x *ℤ signed w y) positive
    (rw (unsigned_abs-mul (signed w x) (signed w y)) (mul-le (unsigned_abs (signed w x)) (unsigned_abs (signed w y)) (2 ^ (w - 1)) (2 ^ (w - 1)) (signed_abs w x positive left) (signed_abs w y positive right)))

pub signed_halves : SignedHalves
signed_halves w x y width left right =
    let product = signed w x *ℤ signed w y in
    ap₂ (λ high low. high *ℤ pos (2 ^ w) +ℤ pos low)
    (signed-unsigned w (high_part product w) width.0 (product_reading w x y width.0 left right))
    (product_same w x y left right)
    ∙ high_part-unsigned w product

pub unsigned_halves : UnsignedHalves
unsigned_halves w x y = div-add-mod' (x * y) (2 ^ w)
