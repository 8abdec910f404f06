-- Signed quotients and remainders.
use Rattle.std.proofs.Common.{◌≡◌, ◌≢◌, ℕ, zero, suc, ◌+◌, ◌-◌, ◌*◌, ◌/◌, ◌%◌, ◌^◌, ◌<◌, ◌≤◌, Bool, ℤ, pos, negsuc, ◌+ℤ◌, ◌*ℤ◌, ◌≤ℤ◌, neg_ℤ, unsigned_abs, int_div, int_rem, if◌then◌else◌, ap, ap₂, sym, refl, ◌∙◌, inl, inr, arith, pow_pos, mod-lt, mod-eq_of_lt, div-le_self, div-one, subst, pos_of_ne-zero, ne_eqb, div-add-mod'}
use Rattle.std.proofs.Math.Nat.{div-lt_self, mod-le, mod-one}
use Rattle.std.proofs.lemmas.Bool.{cases_lt}
use Rattle.std.proofs.lemmas.Int.{ints, quot-rem, rem_below}
use Rattle.word_operations.specs.Laws.{UnsignedDivision, SignedDivision, SignedRemainder, LeastByMinusOne, DivisionByZero}
use Rattle.word_operations.specs.Op2.{op2_of}
use Rattle.word_operations.specs.Signed.{signed, unsigned, IsReading}
use Rattle.word_operations.specs.declared.kinds.BinaryOperation.TheVariants.{DivU, DivS, RemU, RemS}
use Rattle.word_operations.proofs.Readings.{signed_low, signed_negative, unsigned-signed, signed-unsigned, unsigned_pos, unsigned_negsuc, signed_reading, signed_nonzero, twice_half, reading_pos, reading_negsuc, pos_within, negsuc_within}

div_s_is : (w x y : ℕ) → y ≢ 0 → op2_of DivS w x y ≡ unsigned w (int_div (signed w x) (signed w y))
div_s_is w x y nonzero = ap (λ (b : Bool). if b then 0 else unsigned w (int_div (signed w x) (signed w y))) (ne_eqb y 0 nonzero)

rem_s_is : (w x y : ℕ) → y ≢ 0 → op2_of RemS w x y ≡ unsigned w (int_rem (signed w x) (signed w y))
rem_s_is w x y nonzero = ap (λ (b : Bool). if b then 0 else unsigned w (int_rem (signed w x) (signed w y))) (ne_eqb y 0 nonzero)

reading_neg : (w n : ℕ) → 1 ≤ w → 2 * n ≤ 2 ^ w → IsReading w (neg_ℤ (pos n))
reading_neg w zero positive bound = reading_pos w 0 positive (omega (arith, pow_pos w))
reading_neg w (suc n) positive bound = reading_negsuc w n positive bound

-- a quotient is a reading, unless it is that of the least number by -1
quotient_reading : (w : ℕ) (a d : ℤ) → 1 ≤ w → IsReading w a → (d ≡ negsuc 0 → 2 * unsigned_abs a ≢ 2 ^ w) → IsReading w (int_div a d)
quotient_reading w (pos a) (pos d) positive reading other =
    reading_pos w (a / d) positive (omega (arith, pos_within w a positive reading, div-le_self a d))
quotient_reading w (pos a) (negsuc d) positive reading other =
    reading_neg w (a / suc d) positive (omega (arith, pos_within w a positive reading, div-le_self a (suc d)))
quotient_reading w (negsuc a) (pos d) positive reading other =
    reading_neg w (suc a / d) positive (omega (arith, negsuc_within w a positive reading, div-le_self (suc a) d))
quotient_reading w (negsuc a) (negsuc zero) positive reading other =
    reading_pos w (suc a / 1) positive (omega (arith, negsuc_within w a positive reading, other refl, div-one (suc a)))
quotient_reading w (negsuc a) (negsuc (suc d)) positive reading other =
    let less : suc a / suc (suc d) < suc a = div-lt_self (omega arith) (omega arith) in
    reading_pos w (suc a / suc (suc d)) positive (omega (arith, negsuc_within w a positive reading))

remainder_reading : (w : ℕ) (a d : ℤ) → 1 ≤ w → IsReading w a → IsReading w (int_rem a d)
remainder_reading w (pos a) d positive reading =
    reading_pos w (a % unsigned_abs d) positive (omega (arith, pos_within w a positive reading, mod-le a (unsigned_abs d)))
remainder_reading w (negsuc a) d positive reading =
    reading_neg w (suc a % unsigned_abs d) positive (omega (arith, negsuc_within w a positive reading, mod-le (suc a) (unsigned_abs d)))

minus_one : (w y : ℕ) → y < 2 ^ w → signed w y ≡ negsuc 0 → y ≡ 2 ^ w - 1
minus_one w y below e =
    sym (unsigned-signed w y below) ∙ ap (unsigned w) e ∙ unsigned_negsuc w 0 ∙ ap (λ k. 2 ^ w - 1 - k) (mod-eq_of_lt (pow_pos w)) ∙ omega arith

least : (w x : ℕ) → 1 ≤ w → x < 2 ^ w → 2 * unsigned_abs (signed w x) ≡ 2 ^ w → x ≡ 2 ^ (w - 1)
least w x positive below e =
    elim (cases_lt (2 * x) (2 ^ w)) [
      | inl low ↦ let abs = ap unsigned_abs (signed_low w x low) in omega (arith, abs, e)
      | inr high ↦
          let abs = ap unsigned_abs (signed_negative w x high below) in
          omega (arith, abs, e, twice_half w positive)
    ]

pub signed_division : SignedDivision
signed_division w x y width left right nonzero other =
    let a = signed w x in
    let d = signed w y in
    let apart : d ≡ negsuc 0 → 2 * unsigned_abs a ≢ 2 ^ w =
    (λ one twice. other (least w x width.0 left twice) (minus_one w y right one)) in
    let reading = signed_reading w x width.0 left in
    let quotient : signed w (op2_of DivS w x y) ≡ int_div a d =
    ap (signed w) (div_s_is w x y nonzero) ∙ signed-unsigned w (int_div a d) width.0 (quotient_reading w a d width.0 reading apart) in
    let rest : signed w (op2_of RemS w x y) ≡ int_rem a d =
    ap (signed w) (rem_s_is w x y nonzero) ∙ signed-unsigned w (int_rem a d) width.0 (remainder_reading w a d width.0 reading) in
    ap₂ (λ q r. q *ℤ d +ℤ r) quotient rest ∙ quot-rem a d

rem_not_negative : (a d : ℤ) → pos 0 ≤ℤ a → pos 0 ≤ℤ int_rem a d
rem_not_negative (pos a) d h = omega (arith, ints)
rem_not_negative (negsuc a) d h = absurd (omega (arith, ints))

rem_not_positive : (a d : ℤ) → a ≤ℤ pos 0 → int_rem a d ≤ℤ pos 0
rem_not_positive (pos a) d h = omega (arith, ints, mod-le a (unsigned_abs d))
rem_not_positive (negsuc a) d h = omega (arith, ints)

abs_nonzero : (d : ℤ) → d ≢ pos 0 → 0 < unsigned_abs d
abs_nonzero (pos n) h = pos_of_ne-zero (λ e. h (ap pos e))
abs_nonzero (negsuc n) h = omega arith

pub signed_remainder : SignedRemainder
signed_remainder w x y width left right nonzero =
    let a = signed w x in
    let d = signed w y in
    let rest : signed w (op2_of RemS w x y) ≡ int_rem a d =
    ap (signed w) (rem_s_is w x y nonzero)
    ∙ signed-unsigned w (int_rem a d) width.0 (remainder_reading w a d width.0 (signed_reading w x width.0 left)) in
    let divisor : 0 < unsigned_abs d = abs_nonzero d (signed_nonzero w y right (pos_of_ne-zero nonzero)) in (
      subst (λ r. unsigned_abs r < unsigned_abs d) (sym rest) (rem_below a d divisor),
      (λ h. subst (λ r. pos 0 ≤ℤ r) (sym rest) (rem_not_negative a d h)),
      (λ h. subst (λ r. r ≤ℤ pos 0) (sym rest) (rem_not_positive a d h)),
    )

pub least_by_minus_one : LeastByMinusOne
least_by_minus_one w width =
    let half = twice_half w width.0 in
    let some : 0 < 2 ^ (w - 1) = pow_pos (w - 1) in
    let x = 2 ^ (w - 1) in
    let y = 2 ^ w - 1 in
    let nonzero : y ≢ 0 = omega arith in
    let first : signed w x ≡ negsuc (2 ^ w - suc x) = signed_negative w x (omega arith) (omega arith) in
    let rest : 2 ^ w - suc y ≡ 0 = omega arith in
    let second : signed w y ≡ negsuc 0 = signed_negative w y (omega arith) (omega arith) ∙ ap negsuc rest in
    let back : suc (2 ^ w - suc x) / 1 ≡ x = div-one (suc (2 ^ w - suc x)) ∙ omega arith in (
      div_s_is w x y nonzero ∙ ap₂ (λ a d. unsigned w (int_div a d)) first second ∙ unsigned_pos w (suc (2 ^ w - suc x) / 1)
          ∙ ap (λ k. k % 2 ^ w) back ∙ mod-eq_of_lt (omega arith),
      rem_s_is w x y nonzero ∙ ap₂ (λ a d. unsigned w (int_rem a d)) first second
          ∙ ap (λ k. unsigned w (neg_ℤ (pos k))) (mod-one (suc (2 ^ w - suc x))) ∙ unsigned_pos w 0 ∙ mod-eq_of_lt (pow_pos w),
    )

pub unsigned_division : UnsignedDivision
unsigned_division w x y nonzero =
    let quotient : op2_of DivU w x y ≡ x / y = ap (λ (b : Bool). if b then 0 else x / y) (ne_eqb y 0 nonzero) in
    let rest : op2_of RemU w x y ≡ x % y = ap (λ (b : Bool). if b then 0 else x % y) (ne_eqb y 0 nonzero) in
    (ap₂ (λ q r. q * y + r) quotient rest ∙ div-add-mod' x y, subst (λ r. r < y) (sym rest) (mod-lt x (pos_of_ne-zero nonzero)))

pub division_by_zero : DivisionByZero
division_by_zero w x = (refl, refl, refl, refl)
