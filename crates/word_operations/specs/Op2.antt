-- What an operation on two words x and y of w bits gives.
use Rattle.std.specs.Prelude.{ℕ, ◌+◌, ◌-◌, ◌*◌, ◌/◌, ◌%◌, ◌^◌, min, ℤ, pos, ◌*ℤ◌, ◌==◌, if◌then◌else◌, bit_and, bit_or, bit_xor, int_div, int_rem}
use Rattle.std.specs.Int.{int_div_euclid}
use Rattle.word_operations.specs.Signed.{signed, unsigned}
use Rattle.word_operations.specs.declared.kinds.BinaryOperation.{BinaryOperation}
use Rattle.word_operations.specs.declared.kinds.BinaryOperation.TheVariants.{Add, Sub, Mul, And, Or, Xor, Shl, ShrU, ShrS, RotL, DivU, DivS, RemU, RemS, MulHiU, MulHiS}

-- z divided by 2 ^ n, rounded down: its bits from n on
abbrev pub high_part : ℤ → ℕ → ℤ
high_part z n = int_div_euclid z (pos (2 ^ n))

-- by how many places a shift by y moves the bits: by w or more they have all left the word
-- (PowerISA, Shift Left Word and Shift Right Algebraic Word; SMT-LIB, bvshl, bvlshr and bvashr)
abbrev pub places : ℕ → ℕ → ℕ
places w y = min y w

-- x, turned to the left by n places: what leaves at the top comes in at the bottom
abbrev pub rotated : ℕ → ℕ → ℕ → ℕ
rotated w x n = x * 2 ^ n % 2 ^ w + x / 2 ^ (w - n)

-- Sums, differences and products are taken modulo 2 ^ w. A signed operation is that of the signed
-- readings, taken modulo 2 ^ w, so the least number by -1 is the least number. Signed quotients are
-- rounded towards 0, and a signed remainder has the sign of the first word (the RISC-V manual, "M"
-- extension; SMT-LIB, bvsdiv and bvsrem). A quotient by 0 is 0 (Arm, UDIV and SDIV), and so is a
-- remainder. The high halves are those of RISC-V's MULHU and MULH. A rotation takes its count
-- modulo w (PowerISA, Rotate Left Word).
abbrev pub op2_of : BinaryOperation → ℕ → ℕ → ℕ → ℕ
op2_of Add w x y = (x + y) % 2 ^ w
op2_of Sub w x y = (x + 2 ^ w - y) % 2 ^ w
op2_of Mul w x y = x * y % 2 ^ w
op2_of And w x y = bit_and x y
op2_of Or w x y = bit_or x y
op2_of Xor w x y = bit_xor x y
op2_of Shl w x y = x * 2 ^ places w y % 2 ^ w
op2_of ShrU w x y = x / 2 ^ places w y
op2_of ShrS w x y = unsigned w (high_part (signed w x) (places w y))
op2_of RotL w x y = rotated w x (y % w)
op2_of DivU w x y = if y == 0 then 0 else x / y
op2_of DivS w x y = if y == 0 then 0 else unsigned w (int_div (signed w x) (signed w y))
op2_of RemU w x y = if y == 0 then 0 else x % y
op2_of RemS w x y = if y == 0 then 0 else unsigned w (int_rem (signed w x) (signed w y))
op2_of MulHiU w x y = x * y / 2 ^ w
op2_of MulHiS w x y = unsigned w (high_part (signed w x *ℤ signed w y) w)
