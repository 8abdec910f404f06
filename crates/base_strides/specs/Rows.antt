-- Operations on strided intervals.
use Rattle.std.specs.Prelude.{ℕ, zero, suc, ◌+◌, ◌-◌, ◌*◌, ◌/◌, ◌%◌, ◌^◌, Bool, ◌==◌, ◌&&◌, Option, Some, None, if◌then◌else◌, nat_lt}
use Rattle.word_operations.specs.declared.kinds.UnaryOperation.{UnaryOperation}
use Rattle.word_operations.specs.declared.kinds.UnaryOperation.TheVariants.{Neg, Not}
use Rattle.word_operations.specs.declared.kinds.BinaryOperation.{BinaryOperation}
use Rattle.word_operations.specs.declared.kinds.BinaryOperation.TheVariants.{Add, Sub, Mul, And, Shl, ShrU, ShrS, RotL}
use Rattle.word_operations.specs.Casts.{sext_of}
use Rattle.word_operations.specs.Op2.{places}
use Rattle.base_interval.specs.Operations.{op2_range}
use Rattle.base_interval.specs.Signs.{crosses, is_low}
use Rattle.base_interval.specs.declared.range.Range.{Range}
use Rattle.base_strides.specs.Gcd.{gcd}
use Rattle.base_strides.specs.Stretch.{stretch, one, divides}
use Rattle.base_strides.specs.declared.stretch.Stretch.{Stretch}

-- between the ends, and the numbers of an interval
abbrev pub range : Stretch → Range
range x = record { lo = x.lo; hi = x.hi }

abbrev pub loosely : Range → Stretch
loosely r = stretch r.lo 1 r.hi

abbrev pub is_one : Stretch → Bool
is_one x = x.lo == x.hi

-- as `stretch`, with no step where that is more than the ends are apart, so that a step is always a word
abbrev pub narrow : ℕ → ℕ → ℕ → Stretch
narrow low step high = if nat_lt (high - low) step then one low else stretch low step high

-- The numbers of the class of low modulo step, from low to high, taken modulo m: where both ends pass m equally
-- often, from the one remainder to the other; else all numbers below m of the class modulo the greatest divisor
-- of both step and m.
abbrev pub wrapped : ℕ → ℕ → ℕ → ℕ → Stretch
wrapped m low step high =
    if low / m == high / m then narrow (low % m) step (high % m) else narrow (low % gcd step m) (gcd step m) (m - 1)

abbrev pub add_row : ℕ → Stretch → Stretch → Stretch
add_row w x y = wrapped (2 ^ w) (x.lo + y.lo) (gcd x.step y.step) (x.hi + y.hi)

abbrev pub sub_row : ℕ → Stretch → Stretch → Stretch
sub_row w x y = wrapped (2 ^ w) (x.lo + 2 ^ w - y.hi) (gcd x.step y.step) (x.hi + 2 ^ w - y.lo)

-- by one number c it is the step times c
abbrev pub mul_step : Stretch → Stretch → ℕ
mul_step x y = gcd (gcd (x.step * y.lo) (y.step * x.lo)) (x.step * y.step)

abbrev pub mul_row : ℕ → Stretch → Stretch → Stretch
mul_row w x y = wrapped (2 ^ w) (x.lo * y.lo) (mul_step x y) (x.hi * y.hi)

-- by one number of places; else as intervals
abbrev pub shl_by : ℕ → Stretch → ℕ → Stretch
shl_by w x n = wrapped (2 ^ w) (x.lo * 2 ^ n) (x.step * 2 ^ n) (x.hi * 2 ^ n)

abbrev pub shr_by : Stretch → ℕ → Stretch
shr_by x n = stretch (x.lo / 2 ^ n) (if divides (2 ^ n) x.step then x.step / 2 ^ n else 1) (x.hi / 2 ^ n)

abbrev pub as_intervals : BinaryOperation → ℕ → Stretch → Stretch → Stretch
as_intervals op w x y = loosely (op2_range op w (range x) (range y))

abbrev pub shl_row : ℕ → Stretch → Stretch → Stretch
shl_row w x y = if is_one y then shl_by w x (places w y.lo) else as_intervals Shl w x y

abbrev pub shr_row : ℕ → Stretch → Stretch → Stretch
shr_row w x y = if is_one y then shr_by x (places w y.lo) else as_intervals ShrU w x y

-- of numbers without the sign bit it is the same without copies of that bit
abbrev pub shr_s_row : ℕ → Stretch → Stretch → Stretch
shr_s_row w x y = if is_low w (range x) then shr_row w x y else as_intervals ShrS w x y

-- a rotation that turns no bit round is a shift
abbrev pub rot_row : ℕ → Stretch → Stretch → Stretch
rot_row w x y = if is_one y && nat_lt (x.hi * 2 ^ (y.lo % w)) (2 ^ w) then shl_by w x (y.lo % w) else as_intervals RotL w x y

-- the exponent, of at most k, of a power of two
abbrev pub exponent : ℕ → ℕ → Option ℕ
exponent zero n = if n == 1 then Some 0 else None
exponent (suc k) n = if n == 2 ^ suc k then Some (suc k) else exponent k n

-- the number without its k lowest bits
abbrev pub cleared : ℕ → ℕ → ℕ
cleared k n = n / 2 ^ k * 2 ^ k

abbrev pub clear_low : Stretch → ℕ → Stretch
clear_low x k = narrow (cleared k x.lo) (if divides (2 ^ k) x.step then x.step else 2 ^ k) (cleared k x.hi)

-- where the mask keeps the lowest bits alone, or clears lowest bits alone; else as intervals
abbrev pub and_high : Option ℕ → ℕ → Stretch → ℕ → Stretch
and_high None w x c = as_intervals And w x (one c)
and_high (Some k) w x c = clear_low x k

abbrev pub and_low : Option ℕ → ℕ → Stretch → ℕ → Stretch
and_low None w x c = and_high (exponent w (2 ^ w - c)) w x c
and_low (Some k) w x c = wrapped (2 ^ k) x.lo x.step x.hi

abbrev pub and_with : ℕ → Stretch → ℕ → Stretch
and_with w x c = and_low (exponent w (c + 1)) w x c

abbrev pub and_row : ℕ → Stretch → Stretch → Stretch
and_row w x y = if is_one y then and_with w x y.lo else (if is_one x then and_with w y x.lo else as_intervals And w x y)

abbrev pub op2_row : BinaryOperation → ℕ → Stretch → Stretch → Stretch
op2_row Add w x y = add_row w x y
op2_row Sub w x y = sub_row w x y
op2_row Mul w x y = mul_row w x y
op2_row And w x y = and_row w x y
op2_row Shl w x y = shl_row w x y
op2_row ShrU w x y = shr_row w x y
op2_row ShrS w x y = shr_s_row w x y
op2_row RotL w x y = rot_row w x y
op2_row op w x y = as_intervals op w x y

abbrev pub op1_row : UnaryOperation → ℕ → Stretch → Stretch
op1_row Neg w x = wrapped (2 ^ w) (2 ^ w - x.hi) x.step (2 ^ w - x.lo)
op1_row Not w x = stretch (2 ^ w - 1 - x.hi) x.step (2 ^ w - 1 - x.lo)

abbrev pub trunc_row : ℕ → Stretch → Stretch
trunc_row to x = wrapped (2 ^ to) x.lo x.step x.hi

-- with one sign bit at both ends the step stays
abbrev pub sext_row : ℕ → ℕ → Stretch → Stretch
sext_row from to x = stretch (sext_of from to x.lo) (if crosses from (range x) then 1 else x.step) (sext_of from to x.hi)
