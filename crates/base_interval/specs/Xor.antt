-- Exclusive disjunctions, bit by bit.
use Rattle.std.proofs.Common.{ℕ, ◌<◌, ◌^◌, max, arith, zero-le}
use Rattle.word_operations.specs.declared.kinds.BinaryOperation.TheVariants.{Xor}
use Rattle.word_operations.proofs.Bounds.{xor_below}
use Rattle.base_interval.specs.Ones.{ones_over, ones_over_digits, ones_over_fits}
use Rattle.base_interval.specs.Range.{from_to}
use Rattle.base_interval.specs.Sound.{IsSound}
use Rattle.base_interval.specs.declared.range.Range.{Range}

-- of no more digits than the longer operand has
abbrev pub xor_of : ℕ → Range → Range → Range
xor_of w x y = from_to 0 (ones_over w (max x.hi y.hi))

pub xor_sound : IsSound Xor xor_of
xor_sound w m n x y h =
    let high = h.left_high in let high_too = h.right_high in
    let longest : max x.hi y.hi < 2 ^ w = let fits = h.left_fits in let fits_too = h.right_fits in omega arith in
    let ones = ones_over_digits w (max x.hi y.hi) longest in
    let whole = ones.ones_are in let within = ones.below in
    let below = xor_below w ones.digits m n (omega arith) (omega arith) in
    ((zero-le, omega arith), ones_over_fits w (max x.hi y.hi))
