-- The result of an operation, of a comparison or of a cast is a word.
use Rattle.std.proofs.Common.{ℕ, ◌+◌, ◌-◌, ◌*◌, ◌/◌, ◌%◌, ◌^◌, ◌<◌, ◌≤◌, Bool, true, false, arith, pow_pos, pow_mono, mod-lt, lt_of_le_of_lt, lt_of_lt_of_le, div-le_self, ◌==◌, if◌then◌else◌, div-lt_iff_lt-mul, min}
use Rattle.std.proofs.Math.Nat.{mod-le}
use Rattle.std.proofs.lemmas.Nat.{or_lt, xor_lt, and_le_l, mul-lt}
use Rattle.word_operations.specs.Casts.{sext_of, trunc_of, zext_of}
use Rattle.word_operations.specs.Op1.{op1_of}
use Rattle.word_operations.specs.Op2.{op2_of}
use Rattle.word_operations.specs.Width.{IsWidth}
use Rattle.word_operations.specs.declared.kinds.UnaryOperation.{UnaryOperation}
use Rattle.word_operations.specs.declared.kinds.UnaryOperation.TheVariants.{Neg, Not}
use Rattle.word_operations.specs.declared.kinds.BinaryOperation.{BinaryOperation}
use Rattle.word_operations.specs.declared.kinds.BinaryOperation.TheVariants.{Add, Sub, Mul, And, Or, Xor, Shl, ShrU, ShrS, RotL, DivU, DivS, RemU, RemS, MulHiU, MulHiS}
use Rattle.word_operations.proofs.Powers.{rotated_fits}
use Rattle.word_operations.proofs.Readings.{unsigned_fits}

unless_zero : (b : Bool) (v m : ℕ) → 0 < m → v < m → (if b then 0 else v) < m
unless_zero true v m positive below = positive
unless_zero false v m positive below = below

pub product_high : (x y m : ℕ) → x < m → y < m → x * y / m < m
product_high x y m left right =
    let positive : 0 < m = omega arith in
    (div-lt_iff_lt-mul positive).1 (mul-lt x y m m left right)

-- an operation on two words gives a word
pub op2_of_fits : (op : BinaryOperation) (w x y : ℕ) → IsWidth w → x < 2 ^ w → y < 2 ^ w → op2_of op w x y < 2 ^ w
op2_of_fits Add w x y width left right = mod-lt (x + y) (pow_pos w)
op2_of_fits Sub w x y width left right = mod-lt (x + 2 ^ w - y) (pow_pos w)
op2_of_fits Mul w x y width left right = mod-lt (x * y) (pow_pos w)
op2_of_fits And w x y width left right = lt_of_le_of_lt (and_le_l x y) left
op2_of_fits Or w x y width left right = or_lt w x y left right
op2_of_fits Xor w x y width left right = xor_lt w x y left right
op2_of_fits Shl w x y width left right = mod-lt (x * 2 ^ min y w) (pow_pos w)
op2_of_fits ShrU w x y width left right = lt_of_le_of_lt (div-le_self x (2 ^ min y w)) left
op2_of_fits ShrS w x y width left right = unsigned_fits w _
op2_of_fits RotL w x y width left right =
    let positive : 0 < w = width.0 in
    let less : y % w < w = mod-lt y positive in
    rotated_fits w x (y % w) (omega arith) left
op2_of_fits DivU w x y width left right = unless_zero (y == 0) (x / y) (2 ^ w) (pow_pos w) (lt_of_le_of_lt (div-le_self x y) left)
op2_of_fits DivS w x y width left right = unless_zero (y == 0) _ (2 ^ w) (pow_pos w) (unsigned_fits w _)
op2_of_fits RemU w x y width left right = unless_zero (y == 0) (x % y) (2 ^ w) (pow_pos w) (lt_of_le_of_lt (mod-le x y) left)
op2_of_fits RemS w x y width left right = unless_zero (y == 0) _ (2 ^ w) (pow_pos w) (unsigned_fits w _)
op2_of_fits MulHiU w x y width left right = product_high x y (2 ^ w) left right
op2_of_fits MulHiS w x y width left right = unsigned_fits w _

-- an operation on one word gives a word
pub op1_of_fits : (op : UnaryOperation) (w x : ℕ) → IsWidth w → x < 2 ^ w → op1_of op w x < 2 ^ w
op1_of_fits Neg w x width below = mod-lt (2 ^ w - x) (pow_pos w)
op1_of_fits Not w x width below = omega arith

-- a cast gives a word
pub zext_of_fits : (from to x : ℕ) → from ≤ to → x < 2 ^ from → zext_of from to x < 2 ^ to
zext_of_fits from to x widens below = lt_of_lt_of_le below (pow_mono widens)

pub sext_of_fits : (from to x : ℕ) → sext_of from to x < 2 ^ to
sext_of_fits from to x = unsigned_fits to _

pub trunc_of_fits : (from to x : ℕ) → trunc_of from to x < 2 ^ to
trunc_of_fits from to x = mod-lt x (pow_pos to)
