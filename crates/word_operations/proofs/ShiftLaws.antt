-- Shifts as products and quotients.
use Rattle.std.proofs.Common.{◌≡◌, ℕ, zero, suc, ◌+◌, ◌-◌, ◌*◌, ◌/◌, ◌%◌, ◌^◌, ◌<◌, ◌≤◌, min, ltb, false, Bool, ℤ, pos, negsuc, ◌+ℤ◌, ◌*ℤ◌, ◌≤ℤ◌, ◌<ℤ◌, neg_ℤ, int_lt, if◌then◌else◌, ap, sym, refl, ◌∙◌, inl, inr, arith, pow_pos, pow_mono, pow-add, mod-lt, mod-eq_of_lt, div-le_self, div-add-mod', subst, lt_of_lt_of_le, le-ltb, zero-le}
use Rattle.std.proofs.Math.Nat.{mul-mod_left, div-eq_of_lt}
use Rattle.std.proofs.lemmas.Bool.{cases_lt}
use Rattle.std.proofs.lemmas.Int.{ints}
use Rattle.word_operations.specs.Laws.{LeftShift, UnsignedRightShift, SignedRightShift, ShiftByWidth}
use Rattle.word_operations.specs.Op2.{op2_of, high_part}
use Rattle.word_operations.specs.Signed.{signed, unsigned, IsReading}
use Rattle.word_operations.specs.declared.kinds.BinaryOperation.TheVariants.{ShrS}
use Rattle.word_operations.proofs.Readings.{signed-unsigned, unsigned_pos, unsigned_negsuc, signed_reading, reading_pos, reading_negsuc, pos_within, negsuc_within}

pub shl_past : (w x y : ℕ) → w ≤ y → x * 2 ^ y % 2 ^ w ≡ 0
shl_past w x y past =
    let split : y ≡ y - w + w = omega arith in
    let power : 2 ^ y ≡ 2 ^ (y - w) * 2 ^ w = ap (λ k. 2 ^ k) split ∙ pow-add 2 (y - w) w in
    let product : x * 2 ^ y ≡ x * 2 ^ (y - w) * 2 ^ w = ap (λ k. x * k) power ∙ omega arith in
    ap (λ k. k % 2 ^ w) product ∙ mul-mod_left (x * 2 ^ (y - w)) (2 ^ w)

pub left_shift : LeftShift
left_shift w x y =
    elim (cases_lt y w) [
      | inl less ↦ let all : min y w ≡ y = omega arith in ap (λ k. x * 2 ^ k % 2 ^ w) all
      | inr past ↦ shl_past w x (min y w) (omega arith) ∙ sym (shl_past w x y past)
    ]

shr_past : (w x y : ℕ) → x < 2 ^ w → w ≤ y → x / 2 ^ y ≡ 0
shr_past w x y below past = div-eq_of_lt (lt_of_lt_of_le below (pow_mono past))

pub unsigned_right_shift : UnsignedRightShift
unsigned_right_shift w x y below =
    elim (cases_lt y w) [
      | inl less ↦ let all : min y w ≡ y = omega arith in ap (λ k. x / 2 ^ k) all
      | inr past ↦ shr_past w x (min y w) below (omega arith) ∙ sym (shr_past w x y below past)
    ]

-- a quotient that is rounded down is a reading too
high_part_within : (w : ℕ) (z : ℤ) (n : ℕ) → 1 ≤ w → IsReading w z → IsReading w (high_part z n)
high_part_within w (pos a) n positive h = reading_pos w (a / 2 ^ n) positive (omega (arith, pos_within w a positive h, div-le_self a (2 ^ n)))
high_part_within w (negsuc a) n positive h = reading_negsuc w (a / 2 ^ n) positive (omega (arith, negsuc_within w a positive h, div-le_self a (2 ^ n)))

-- by the width or more all places but the sign are gone
high_part_past : (w : ℕ) (z : ℤ) (n : ℕ) → 1 ≤ w → IsReading w z → w ≤ n → high_part z n ≡ high_part z w
high_part_past w (pos a) n positive h past =
    let below : a < 2 ^ w = omega (arith, pos_within w a positive h) in
    ap pos (shr_past w a n below past ∙ sym (shr_past w a w below (omega arith)))
high_part_past w (negsuc a) n positive h past =
    let below : a < 2 ^ w = omega (arith, negsuc_within w a positive h) in
    ap negsuc (shr_past w a n below past ∙ sym (shr_past w a w below (omega arith)))

pub shr_s_is : (w x y : ℕ) → 1 ≤ w → x < 2 ^ w → signed w (op2_of ShrS w x y) ≡ high_part (signed w x) y
shr_s_is w x y positive below =
    let reading = signed_reading w x positive below in
    signed-unsigned w (high_part (signed w x) (min y w)) positive (high_part_within w (signed w x) (min y w) positive reading)
    ∙ elim (cases_lt y w) [
      | inl less ↦ let all : min y w ≡ y = omega arith in ap (high_part (signed w x)) all
      | inr past ↦
          let all : min y w ≡ w = omega arith in
          ap (high_part (signed w x)) all ∙ sym (high_part_past w (signed w x) y positive reading past)
    ]

high_part_low : (z : ℤ) (n : ℕ) → (high_part z n *ℤ pos (2 ^ n)) ≤ℤ z
high_part_low (pos a) n = omega (arith, ints, div-add-mod' a (2 ^ n))
high_part_low (negsuc a) n = omega (arith, ints, div-add-mod' a (2 ^ n), mod-lt a (pow_pos n))

neg-mul : (q m : ℕ) → neg_ℤ (pos q) *ℤ pos m ≡ neg_ℤ (pos (q * m))
neg-mul zero m = omega (arith, ints)
neg-mul (suc q) m = refl

high_part_high : (z : ℤ) (n : ℕ) → z <ℤ ((high_part z n +ℤ pos 1) *ℤ pos (2 ^ n))
high_part_high (pos a) n = omega (arith, ints, div-add-mod' a (2 ^ n), mod-lt a (pow_pos n))
high_part_high (negsuc a) n =
    let next : negsuc (a / 2 ^ n) +ℤ pos 1 ≡ neg_ℤ (pos (a / 2 ^ n)) = omega (arith, ints) in
    subst (λ q. negsuc a <ℤ q) (sym (ap (λ q. q *ℤ pos (2 ^ n)) next ∙ neg-mul (a / 2 ^ n) (2 ^ n)))
    (omega (arith, ints, div-add-mod' a (2 ^ n)))

pub signed_right_shift : SignedRightShift
signed_right_shift w x y width below =
    let is = sym (shr_s_is w x y width.0 below) in (
      subst (λ q. (q *ℤ pos (2 ^ y)) ≤ℤ signed w x) is (high_part_low (signed w x) y),
      subst (λ q. signed w x <ℤ ((q +ℤ pos 1) *ℤ pos (2 ^ y))) is (high_part_high (signed w x) y),
    )

sign_fill : (w : ℕ) (z : ℤ) → 1 ≤ w → IsReading w z → unsigned w (high_part z w) ≡ (if int_lt z (pos 0) then 2 ^ w - 1 else 0)
sign_fill w (pos a) positive h =
    let below : a < 2 ^ w = omega (arith, pos_within w a positive h) in
    let small : ltb a 0 ≡ false = le-ltb a 0 zero-le in
    ap (λ k. unsigned w (pos k)) (div-eq_of_lt below) ∙ unsigned_pos w 0 ∙ mod-eq_of_lt (pow_pos w)
    ∙ ap (λ (b : Bool). if b then 2 ^ w - 1 else 0) (sym small)
sign_fill w (negsuc a) positive h =
    let below : a < 2 ^ w = omega (arith, negsuc_within w a positive h) in
    ap (λ k. unsigned w (negsuc k)) (div-eq_of_lt below) ∙ unsigned_negsuc w 0 ∙ ap (λ k. 2 ^ w - 1 - k) (mod-eq_of_lt (pow_pos w)) ∙ omega arith

pub shift_by_width : ShiftByWidth
shift_by_width w x y width below past =
    let all : min y w ≡ w = omega arith in (
      ap (λ k. x * 2 ^ k % 2 ^ w) all ∙ mul-mod_left x (2 ^ w),
      ap (λ k. x / 2 ^ k) all ∙ div-eq_of_lt below,
      ap (λ k. unsigned w (high_part (signed w x) k)) all ∙ sign_fill w (signed w x) width.0 (signed_reading w x width.0 below),
    )
