-- What each operation owes: an interval of words that holds each result.
use Rattle.std.proofs.Common.{ℕ, ◌^◌, ◌<◌, ◌≤◌, arith, pow_pos, zero-le}
use Rattle.word_operations.specs.declared.kinds.UnaryOperation.{UnaryOperation}
use Rattle.word_operations.specs.declared.kinds.BinaryOperation.{BinaryOperation}
use Rattle.word_operations.specs.Op1.{op1_of}
use Rattle.word_operations.specs.Op2.{op2_of}
use Rattle.word_operations.specs.Width.{IsWidth}
use Rattle.word_operations.proofs.Fits.{op2_of_fits}
use Rattle.base_interval.specs.Range.{Holds, Fits, all}
use Rattle.base_interval.specs.declared.range.Range.{Range}

-- an interval of words of w bits that holds the number
abbrev pub HoldsWord : ℕ → Range → ℕ → Type 0
HoldsWord w x n = Holds x n × (x.hi < 2 ^ w)

-- the intervals are of words of w bits; the first holds m, the second n
pub record AreHeld (w : ℕ) (x y : Range) (m n : ℕ) : Type 0 where
  pub width : IsWidth w
  pub left_low : x.lo ≤ m
  pub left_high : m ≤ x.hi
  pub left_fits : x.hi < 2 ^ w
  pub right_low : y.lo ≤ n
  pub right_high : n ≤ y.hi
  pub right_fits : y.hi < 2 ^ w

-- each two numbers that the operands hold give a number that the result holds
abbrev pub IsSound : BinaryOperation → (ℕ → Range → Range → Range) → Type 0
IsSound op row = (w m n : ℕ) (x y : Range) → AreHeld w x y m n → HoldsWord w (row w x y) (op2_of op w m n)

-- each number that the operand holds gives a number that the result holds
abbrev pub IsSoundOfOne : UnaryOperation → (ℕ → Range → Range) → Type 0
IsSoundOfOne op row = (w n : ℕ) (x : Range) → IsWidth w → Fits w x → Holds x n → HoldsWord w (row w x) (op1_of op w n)

-- ---- any holds each word
pub all_holds : (w n : ℕ) → n < 2 ^ w → HoldsWord w (all w) n
all_holds w n below = ((zero-le, omega arith), omega (arith, pow_pos w))

pub any_result : (op : BinaryOperation) (w m n : ℕ) (x y : Range) → AreHeld w x y m n → HoldsWord w (all w) (op2_of op w m n)
any_result op w m n x y h =
    let left = h.left_high in let left_fits = h.left_fits in
    let right = h.right_high in let right_fits = h.right_fits in
    all_holds w (op2_of op w m n) (op2_of_fits op w m n h.width (omega arith) (omega arith))

-- ---- the low ends are words too
pub low_of_left : (w m n : ℕ) (x y : Range) → AreHeld w x y m n → x.lo < 2 ^ w
low_of_left w m n x y h = let low = h.left_low in let high = h.left_high in let fits = h.left_fits in omega arith

pub low_of_right : (w m n : ℕ) (x y : Range) → AreHeld w x y m n → y.lo < 2 ^ w
low_of_right w m n x y h = let low = h.right_low in let high = h.right_high in let fits = h.right_fits in omega arith
