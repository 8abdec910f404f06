-- Laws of the operations, at every width.
use Rattle.std.specs.Prelude.{◌≡◌, ◌≢◌, ℕ, ◌+◌, ◌-◌, ◌*◌, ◌/◌, ◌%◌, ◌^◌, ◌<◌, ◌≤◌, ◌⊎◌, ◌↔◌, Bool, not, ℤ, pos, ◌+ℤ◌, ◌-ℤ◌, ◌*ℤ◌, ◌≤ℤ◌, ◌<ℤ◌, unsigned_abs, IsTrue, IsBitSet, if◌then◌else◌, int_lt}
use Rattle.word_operations.specs.Casts.{zext_of, sext_of, trunc_of}
use Rattle.word_operations.specs.Cmp.{cmp_of}
use Rattle.word_operations.specs.Op1.{op1_of}
use Rattle.word_operations.specs.Op2.{op2_of}
use Rattle.word_operations.specs.Signed.{signed, unsigned, IsReading}
use Rattle.word_operations.specs.Width.{IsWidth}
use Rattle.word_operations.specs.declared.kinds.WordComparison.TheVariants.{Eq, Ne, LtU, LeU, LtS, LeS}
use Rattle.word_operations.specs.declared.kinds.UnaryOperation.TheVariants.{Neg, Not}
use Rattle.word_operations.specs.declared.kinds.BinaryOperation.TheVariants.{Add, Sub, Mul, And, Or, Xor, Shl, ShrU, ShrS, RotL, DivU, DivS, RemU, RemS, MulHiU, MulHiS}

-- ---- readings

-- Words and signed readings go with each other, one by one.
abbrev pub ReadingsAreWords : Type 0
ReadingsAreWords =
    (w : ℕ) → IsWidth w
    → ((x : ℕ) → x < 2 ^ w → IsReading w (signed w x) × (unsigned w (signed w x) ≡ x))
    × ((z : ℤ) → IsReading w z → (unsigned w z < 2 ^ w) × (signed w (unsigned w z) ≡ z))

-- The word of an integer differs from it by a multiple of 2 ^ w.
abbrev pub WordsAreRemainders : Type 0
WordsAreRemainders =
    (w : ℕ) (z : ℤ) → (unsigned w z < 2 ^ w) × ((k : ℤ) × (z ≡ k *ℤ pos (2 ^ w) +ℤ pos (unsigned w z)))

-- Sums, differences and products are those of the signed readings too.
abbrev pub SameForBothReadings : Type 0
SameForBothReadings =
    (w x y : ℕ) → x < 2 ^ w → y < 2 ^ w
    → (op2_of Add w x y ≡ unsigned w (signed w x +ℤ signed w y))
    × (op2_of Sub w x y ≡ unsigned w (signed w x -ℤ signed w y))
    × (op2_of Mul w x y ≡ unsigned w (signed w x *ℤ signed w y))

-- ---- arithmetic

-- A word and its negation add up to 0, and to subtract is to add the negation.
abbrev pub NegationUndoes : Type 0
NegationUndoes =
    (w x y : ℕ) → x < 2 ^ w → y < 2 ^ w
    → (op2_of Add w x (op1_of Neg w x) ≡ 0) × (op2_of Sub w x y ≡ op2_of Add w x (op1_of Neg w y))

-- The high and the low half put the product of the numbers together.
abbrev pub UnsignedHalves : Type 0
UnsignedHalves = (w x y : ℕ) → op2_of MulHiU w x y * 2 ^ w + op2_of Mul w x y ≡ x * y

-- The high half, signed, and the low half put the product of the signed readings together.
abbrev pub SignedHalves : Type 0
SignedHalves =
    (w x y : ℕ) → IsWidth w → x < 2 ^ w → y < 2 ^ w
    → signed w (op2_of MulHiS w x y) *ℤ pos (2 ^ w) +ℤ pos (op2_of Mul w x y) ≡ signed w x *ℤ signed w y

-- Quotient and remainder put the dividend together again, and the remainder is below the divisor.
abbrev pub UnsignedDivision : Type 0
UnsignedDivision =
    (w x y : ℕ) → y ≢ 0
    → (op2_of DivU w x y * y + op2_of RemU w x y ≡ x) × (op2_of RemU w x y < y)

-- So they do with signed readings, unless the least number is divided by -1.
abbrev pub SignedDivision : Type 0
SignedDivision =
    (w x y : ℕ) → IsWidth w → x < 2 ^ w → y < 2 ^ w → y ≢ 0 → (x ≡ 2 ^ (w - 1) → y ≢ 2 ^ w - 1)
    → signed w (op2_of DivS w x y) *ℤ signed w y +ℤ signed w (op2_of RemS w x y) ≡ signed w x

-- The signed remainder is nearer to 0 than the divisor, and is 0 or has the sign of the dividend.
abbrev pub SignedRemainder : Type 0
SignedRemainder =
    (w x y : ℕ) → IsWidth w → x < 2 ^ w → y < 2 ^ w → y ≢ 0
    → let rest = signed w (op2_of RemS w x y) in
    (unsigned_abs rest < unsigned_abs (signed w y))
    × (pos 0 ≤ℤ signed w x → pos 0 ≤ℤ rest)
    × (signed w x ≤ℤ pos 0 → rest ≤ℤ pos 0)

-- The least number by -1 is the least number, and the remainder is 0.
abbrev pub LeastByMinusOne : Type 0
LeastByMinusOne =
    (w : ℕ) → IsWidth w
    → (op2_of DivS w (2 ^ (w - 1)) (2 ^ w - 1) ≡ 2 ^ (w - 1)) × (op2_of RemS w (2 ^ (w - 1)) (2 ^ w - 1) ≡ 0)

-- By 0 the quotients and the remainders are 0.
abbrev pub DivisionByZero : Type 0
DivisionByZero =
    (w x : ℕ)
    → (op2_of DivU w x 0 ≡ 0) × (op2_of DivS w x 0 ≡ 0) × (op2_of RemU w x 0 ≡ 0) × (op2_of RemS w x 0 ≡ 0)

-- ---- bits

-- Bit by bit.
abbrev pub BitByBit : Type 0
BitByBit =
    (w x y i : ℕ) → i < w → x < 2 ^ w → y < 2 ^ w
    → (IsBitSet (op2_of And w x y) i ↔ (IsBitSet x i × IsBitSet y i))
    × (IsBitSet (op2_of Or w x y) i ↔ (IsBitSet x i ⊎ IsBitSet y i))
    × (IsBitSet (op2_of Xor w x y) i ↔ ((IsBitSet x i × (¬ IsBitSet y i)) ⊎ ((¬ IsBitSet x i) × IsBitSet y i)))
    × (IsBitSet (op1_of Not w x) i ↔ (¬ IsBitSet x i))

-- A left shift is multiplication, modulo 2 ^ w.
abbrev pub LeftShift : Type 0
LeftShift = (w x y : ℕ) → op2_of Shl w x y ≡ x * 2 ^ y % 2 ^ w

-- A right shift is division, rounded down.
abbrev pub UnsignedRightShift : Type 0
UnsignedRightShift = (w x y : ℕ) → x < 2 ^ w → op2_of ShrU w x y ≡ x / 2 ^ y

-- An arithmetic right shift divides the signed reading, rounded down.
abbrev pub SignedRightShift : Type 0
SignedRightShift =
    (w x y : ℕ) → IsWidth w → x < 2 ^ w
    → let quotient = signed w (op2_of ShrS w x y) in
    ((quotient *ℤ pos (2 ^ y)) ≤ℤ signed w x) × (signed w x <ℤ ((quotient +ℤ pos 1) *ℤ pos (2 ^ y)))

-- By the width or more a shift leaves no bit, and an arithmetic one the sign in every bit.
abbrev pub ShiftByWidth : Type 0
ShiftByWidth =
    (w x y : ℕ) → IsWidth w → x < 2 ^ w → w ≤ y
    → (op2_of Shl w x y ≡ 0)
    × (op2_of ShrU w x y ≡ 0)
    × (op2_of ShrS w x y ≡ (if int_lt (signed w x) (pos 0) then 2 ^ w - 1 else 0))

-- A rotation moves bit i to the place i + y, modulo w.
abbrev pub Rotation : Type 0
Rotation = (w x y i : ℕ) → x < 2 ^ w → i < w → (IsBitSet (op2_of RotL w x y) ((i + y) % w) ↔ IsBitSet x i)

-- ---- casts

-- Zero extension keeps the number, and truncation gives the word back.
abbrev pub ZeroExtension : Type 0
ZeroExtension =
    (from to x : ℕ) → from ≤ to → x < 2 ^ from
    → (zext_of from to x ≡ x) × (trunc_of to from (zext_of from to x) ≡ x)

-- Sign extension keeps the signed reading, and truncation gives the word back.
abbrev pub SignExtension : Type 0
SignExtension =
    (from to x : ℕ) → IsWidth from → from ≤ to → x < 2 ^ from
    → (signed to (sext_of from to x) ≡ signed from x) × (trunc_of to from (sext_of from to x) ≡ x)

-- Truncation keeps the lowest bits, and no other.
abbrev pub Truncation : Type 0
Truncation =
    (from to x i : ℕ) → to ≤ from → x < 2 ^ from
    → (i < to → IsBitSet (trunc_of from to x) i ↔ IsBitSet x i) × (to ≤ i → ¬ IsBitSet (trunc_of from to x) i)

-- ---- comparisons

-- le is a total order of the words of w bits, and lt is its strict part.
pub record OrdersWords (w : ℕ) (le lt : ℕ → ℕ → Bool) : Type 0 where
  pub total : (x y : ℕ) → IsTrue (le x y) ⊎ IsTrue (le y x)
  pub antisymmetric : (x y : ℕ) → x < 2 ^ w → y < 2 ^ w → IsTrue (le x y) → IsTrue (le y x) → x ≡ y
  pub transitive : (x y z : ℕ) → IsTrue (le x y) → IsTrue (le y z) → IsTrue (le x z)
  pub strict : (x y : ℕ) → lt x y ≡ not (le y x)

-- Eq says whether two words are one, and Ne whether they are not.
abbrev pub Equality : Type 0
Equality =
    (w x y : ℕ) → (IsTrue (cmp_of Eq w x y) ↔ (x ≡ y)) × (cmp_of Ne w x y ≡ not (cmp_of Eq w x y))

-- The unsigned order is that of the numbers.
abbrev pub UnsignedOrder : Type 0
UnsignedOrder =
    (w : ℕ) → OrdersWords w (cmp_of LeU w) (cmp_of LtU w)
    × ((x y : ℕ) → (IsTrue (cmp_of LtU w x y) ↔ (x < y)) × (IsTrue (cmp_of LeU w x y) ↔ (x ≤ y)))

-- The signed order is that of the signed readings.
abbrev pub SignedOrder : Type 0
SignedOrder =
    (w : ℕ) → OrdersWords w (cmp_of LeS w) (cmp_of LtS w)
    × ((x y : ℕ) → (IsTrue (cmp_of LtS w x y) ↔ (signed w x <ℤ signed w y)) × (IsTrue (cmp_of LeS w x y) ↔ (signed w x ≤ℤ signed w y)))
