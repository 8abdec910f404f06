-- Disjunctions, bit by bit.
use Rattle.std.proofs.Common.{ℕ, ◌<◌, ◌^◌, max, arith}
use Rattle.word_operations.specs.declared.kinds.BinaryOperation.TheVariants.{Or}
use Rattle.word_operations.proofs.Bounds.{or_ge, or_below}
use Rattle.base_interval.specs.Ones.{ones_over, ones_over_digits, ones_over_fits}
use Rattle.base_interval.specs.Range.{from_to}
use Rattle.base_interval.specs.Sound.{IsSound}
use Rattle.base_interval.specs.declared.range.Range.{Range}

-- at least each of the operands, and of no more digits than the longer one has
abbrev pub or_of : ℕ → Range → Range → Range
or_of w x y = from_to (max x.lo y.lo) (ones_over w (max x.hi y.hi))

pub or_sound : IsSound Or or_of
or_sound w m n x y h =
    let low = h.left_low in let high = h.left_high in
    let low_too = h.right_low in let high_too = h.right_high in
    let longest : max x.hi y.hi < 2 ^ w = let fits = h.left_fits in let fits_too = h.right_fits in omega arith in
    let ones = ones_over_digits w (max x.hi y.hi) longest in
    let whole = ones.ones_are in let within = ones.below in
    let at_least = or_ge w m n in
    let below = or_below w ones.digits m n (omega arith) (omega arith) in
    ((omega arith, omega arith), ones_over_fits w (max x.hi y.hi))
