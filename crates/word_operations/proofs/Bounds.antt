-- When a result is exact, what bounds it, and in which arguments it grows. Each lemma is over the width.
use Rattle.std.proofs.Common.{◌≡◌, ◌≢◌, ℕ, suc, ◌+◌, ◌-◌, ◌*◌, ◌/◌, ◌%◌, ◌^◌, ◌<◌, ◌≤◌, min, max, Bool, ◌==◌, if◌then◌else◌, ◌*ℤ◌, ◌≤ℤ◌, ◌<ℤ◌, int_div, int_rem, ap, ap₂, sym, ◌∙◌, inl, inr, arith, pow_pos, pow_mono, mod-lt, mod-eq_of_lt, div-le_self, le_trans, le_refl, pow-add, lt_of_mul-lt-mul_right, add-zero, div-mul-le_self, mul-le-mul_left, ne_eqb, true, false, zero-le, div-add-mod'}
use Rattle.word_operations.proofs.Fits.{product_high}
use Rattle.std.proofs.Math.Nat.{div-eq_of_lt, mod-le}
use Rattle.std.proofs.lemmas.Bool.{cases_lt}
use Rattle.std.proofs.lemmas.Int.{ints}
use Rattle.std.proofs.lemmas.Nat.{and_le_l, and_le_r, le_or_l, le_or_r, or_lt, xor_lt, le-div, mul-le}
use Rattle.word_operations.specs.Casts.{sext_of, trunc_of}
use Rattle.word_operations.specs.Op1.{op1_of}
use Rattle.word_operations.specs.Op2.{op2_of, high_part}
use Rattle.word_operations.specs.Signed.{signed, unsigned}
use Rattle.word_operations.specs.declared.kinds.UnaryOperation.TheVariants.{Not}
use Rattle.word_operations.specs.declared.kinds.BinaryOperation.TheVariants.{Mul, And, Or, Xor, Shl, ShrU, ShrS, RotL, DivU, DivS, RemU, RemS, MulHiU, MulHiS}
use Rattle.word_operations.proofs.Readings.{signed_low, signed_negative, unsigned_pos, unsigned_negsuc}
use Rattle.word_operations.proofs.ShiftLaws.{left_shift}

-- ---- quotients of numbers

div_mono : (x x' d : ℕ) → 0 < d → x ≤ x' → x / d ≤ x' / d
div_mono x x' d positive more = le-div (x / d) x' d positive (omega (arith, div-mul-le_self x d))

div_anti : (x y y' : ℕ) → 0 < y' → y' ≤ y → x / y ≤ x / y'
div_anti x y y' positive less =
    le-div (x / y) x y' positive (omega (arith, div-mul-le_self x y, mul-le-mul_left (x / y) less))

-- ---- sums, differences, products, negation

-- a product that stays below 2 ^ w
pub mul_exact : (w x y : ℕ) → x * y < 2 ^ w → op2_of Mul w x y ≡ x * y
mul_exact w x y below = mod-eq_of_lt below

-- the high half grows in both factors
pub mul_hi_u_mono : (w x x' y y' : ℕ) → x ≤ x' → y ≤ y' → op2_of MulHiU w x y ≤ op2_of MulHiU w x' y'
mul_hi_u_mono w x x' y y' left right = div_mono (x * y) (x' * y') (2 ^ w) (pow_pos w) (mul-le x y x' y' left right)

-- ---- bits

-- And is at most either word
pub and_le : (w x y : ℕ) → op2_of And w x y ≤ min x y
and_le w x y = omega (arith, and_le_l x y, and_le_r x y)

-- Or is at least either word
pub or_ge : (w x y : ℕ) → max x y ≤ op2_of Or w x y
or_ge w x y = omega (arith, le_or_l x y, le_or_r x y)

-- Or and Xor stay below a power of two that both words are below
pub or_below : (w i x y : ℕ) → x < 2 ^ i → y < 2 ^ i → op2_of Or w x y < 2 ^ i
or_below w i x y left right = or_lt i x y left right

pub xor_below : (w i x y : ℕ) → x < 2 ^ i → y < 2 ^ i → op2_of Xor w x y < 2 ^ i
xor_below w i x y left right = xor_lt i x y left right

-- ---- shifts

-- a left shift that loses no bit
pub shl_exact : (w x y : ℕ) → x * 2 ^ y < 2 ^ w → op2_of Shl w x y ≡ x * 2 ^ y
shl_exact w x y below = left_shift w x y ∙ mod-eq_of_lt below

-- a rotation that carries no bit round
pub rot_l_exact : (w x y : ℕ) → x * 2 ^ (y % w) < 2 ^ w → 0 < w → op2_of RotL w x y ≡ x * 2 ^ (y % w)
rot_l_exact w x y below positive =
    let n = y % w in
    let within : n < w = mod-lt y positive in
    let whole : w - n + n ≡ w = omega arith in
    let power : 2 ^ w ≡ 2 ^ (w - n) * 2 ^ n = ap (λ k. 2 ^ k) (sym whole) ∙ pow-add 2 (w - n) n in
    let low : x < 2 ^ (w - n) = lt_of_mul-lt-mul_right (2 ^ n) (omega arith) in
    ap₂ (λ a b. a + b) (mod-eq_of_lt below) (div-eq_of_lt low) ∙ add-zero (x * 2 ^ n)

-- a right shift grows in the word, and falls in the count
pub shr_u_mono : (w x x' y y' : ℕ) → x ≤ x' → y' ≤ y → op2_of ShrU w x y ≤ op2_of ShrU w x' y'
shr_u_mono w x x' y y' more less =
    let counts : min y' w ≤ min y w = omega arith in
    le_trans (div_mono x x' (2 ^ min y w) (pow_pos (min y w)) more)
    (div_anti x' (2 ^ min y w) (2 ^ min y' w) (pow_pos (min y' w)) (pow_mono counts))

-- an arithmetic right shift of a word whose sign bit is clear
pub shr_s_low : (w x y : ℕ) → 2 * x < 2 ^ w → op2_of ShrS w x y ≡ op2_of ShrU w x y
shr_s_low w x y low =
    ap (λ z. unsigned w (high_part z (min y w))) (signed_low w x low)
    ∙ unsigned_pos w (x / 2 ^ min y w)
    ∙ mod-eq_of_lt (omega (arith, div-le_self x (2 ^ min y w)))

-- and of one whose sign bit is set: the complement of the shifted complement
pub shr_s_high : (w x y : ℕ) → x < 2 ^ w → 2 ^ w ≤ 2 * x → op2_of ShrS w x y ≡ op1_of Not w (op2_of ShrU w (op1_of Not w x) y)
shr_s_high w x y below high =
    let rest : 2 ^ w - suc x ≡ 2 ^ w - 1 - x = omega arith in
    let less : (2 ^ w - suc x) / 2 ^ min y w < 2 ^ w = omega (arith, div-le_self (2 ^ w - suc x) (2 ^ min y w), pow_pos w) in
    ap (λ z. unsigned w (high_part z (min y w))) (signed_negative w x high below)
    ∙ unsigned_negsuc w ((2 ^ w - suc x) / 2 ^ min y w)
    ∙ ap (λ n. 2 ^ w - 1 - n) (mod-eq_of_lt less)
    ∙ ap (λ n. 2 ^ w - 1 - n / 2 ^ min y w) rest

-- it grows in words of one sign
pub shr_s_mono : (w x x' y : ℕ) → x ≤ x' → x' < 2 ^ w → (2 ^ w ≤ 2 * x' → 2 ^ w ≤ 2 * x) → op2_of ShrS w x y ≤ op2_of ShrS w x' y
shr_s_mono w x x' y more below sign =
    elim (cases_lt (2 * x') (2 ^ w)) [
      | inl low ↦ omega (arith, shr_s_low w x y (omega arith), shr_s_low w x' y low, shr_u_mono w x x' y y more (le_refl y))
      | inr high ↦
          let less : 2 ^ w - 1 - x' ≤ 2 ^ w - 1 - x = omega arith in
          omega (arith, shr_s_high w x y (omega arith) (sign high), shr_s_high w x' y below high, shr_u_mono w (2 ^ w - 1 - x') (2 ^ w - 1 - x) y y less (le_refl y))
    ]

-- ---- quotients and remainders

unless_zero_le : (b : Bool) (v m : ℕ) → v ≤ m → (if b then 0 else v) ≤ m
unless_zero_le true v m h = zero-le
unless_zero_le false v m h = h

rem_u_is : (w x y : ℕ) → y ≢ 0 → op2_of RemU w x y ≡ x % y
rem_u_is w x y nonzero = ap (λ (b : Bool). if b then 0 else x % y) (ne_eqb y 0 nonzero)

-- it is at most the dividend
pub div_u_le : (w x y : ℕ) → op2_of DivU w x y ≤ x
div_u_le w x y = unless_zero_le (y == 0) (x / y) x (div-le_self x y)

pub rem_u_le : (w x y : ℕ) → op2_of RemU w x y ≤ x
rem_u_le w x y = unless_zero_le (y == 0) (x % y) x (mod-le x y)

-- of a dividend below the divisor it is the dividend
pub rem_u_exact : (w x y : ℕ) → x < y → op2_of RemU w x y ≡ x
rem_u_exact w x y less = rem_u_is w x y (omega arith) ∙ mod-eq_of_lt less

-- signed operations on words whose sign bits are clear
pub div_s_low : (w x y : ℕ) → 2 * x < 2 ^ w → 2 * y < 2 ^ w → op2_of DivS w x y ≡ op2_of DivU w x y
div_s_low w x y left right =
    let same : unsigned w (int_div (signed w x) (signed w y)) ≡ x / y =
    ap₂ (λ a d. unsigned w (int_div a d)) (signed_low w x left) (signed_low w y right)
    ∙ unsigned_pos w (x / y) ∙ mod-eq_of_lt (omega (arith, div-le_self x y)) in
    ap (λ (n : ℕ). if y == 0 then 0 else n) same

pub rem_s_low : (w x y : ℕ) → 2 * x < 2 ^ w → 2 * y < 2 ^ w → op2_of RemS w x y ≡ op2_of RemU w x y
rem_s_low w x y left right =
    let same : unsigned w (int_rem (signed w x) (signed w y)) ≡ x % y =
    ap₂ (λ a d. unsigned w (int_rem a d)) (signed_low w x left) (signed_low w y right)
    ∙ unsigned_pos w (x % y) ∙ mod-eq_of_lt (omega (arith, mod-le x y)) in
    ap (λ (n : ℕ). if y == 0 then 0 else n) same

pub mul_hi_s_low : (w x y : ℕ) → 2 * x < 2 ^ w → 2 * y < 2 ^ w → op2_of MulHiS w x y ≡ op2_of MulHiU w x y
mul_hi_s_low w x y left right =
    ap₂ (λ a b. unsigned w (high_part (a *ℤ b) w)) (signed_low w x left) (signed_low w y right)
    ∙ unsigned_pos w (x * y / 2 ^ w) ∙ mod-eq_of_lt (product_high x y (2 ^ w) (omega arith) (omega arith))

-- ---- signed readings and sign extension

-- words of one sign are ordered as their readings are
pub signed_mono : (w x y : ℕ) → x ≤ y → y < 2 ^ w → (2 ^ w ≤ 2 * y → 2 ^ w ≤ 2 * x) → signed w x ≤ℤ signed w y
signed_mono w x y more below sign =
    elim (cases_lt (2 * y) (2 ^ w)) [
      | inl low ↦ omega (arith, ints, signed_low w x (omega arith), signed_low w y low)
      | inr high ↦ omega (arith, ints, signed_negative w x (sign high) (omega arith), signed_negative w y high below)
    ]

-- a word whose sign bit is set is read below one whose sign bit is clear
pub signed_apart : (w x y : ℕ) → x < 2 ^ w → 2 ^ w ≤ 2 * x → 2 * y < 2 ^ w → signed w x <ℤ signed w y
signed_apart w x y below high low = omega (arith, ints, signed_negative w x high below, signed_low w y low)

-- sign extension of a word whose sign bit is clear, and of one whose sign bit is set
pub sext_low : (from to x : ℕ) → from ≤ to → 2 * x < 2 ^ from → sext_of from to x ≡ x
sext_low from to x widens low =
    let greater : 2 ^ from ≤ 2 ^ to = pow_mono widens in
    ap (unsigned to) (signed_low from x low) ∙ unsigned_pos to x ∙ mod-eq_of_lt (omega arith)

pub sext_high : (from to x : ℕ) → from ≤ to → x < 2 ^ from → 2 ^ from ≤ 2 * x → sext_of from to x + 2 ^ from ≡ x + 2 ^ to
sext_high from to x widens below high =
    let greater : 2 ^ from ≤ 2 ^ to = pow_mono widens in
    let less : 2 ^ from - suc x < 2 ^ to = omega (arith, pow_pos to) in
    let is : sext_of from to x ≡ 2 ^ to - 1 - (2 ^ from - suc x) =
    ap (unsigned to) (signed_negative from x high below) ∙ unsigned_negsuc to (2 ^ from - suc x) ∙ ap (λ n. 2 ^ to - 1 - n) (mod-eq_of_lt less) in
    omega arith

-- ---- truncation

-- it grows in words whose high bits are the same
pub trunc_mono : (from to x x' : ℕ) → x ≤ x' → x / 2 ^ to ≡ x' / 2 ^ to → trunc_of from to x ≤ trunc_of from to x'
trunc_mono from to x x' more same =
    let high : x / 2 ^ to * 2 ^ to ≡ x' / 2 ^ to * 2 ^ to = ap (λ k. k * 2 ^ to) same in
    omega (arith, div-add-mod' x (2 ^ to), div-add-mod' x' (2 ^ to))
