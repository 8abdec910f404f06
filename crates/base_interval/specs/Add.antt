-- Sums.
use Rattle.std.proofs.Common.{ℕ, ◌+◌, arith}
use Rattle.word_operations.specs.declared.kinds.BinaryOperation.TheVariants.{Add}
use Rattle.base_interval.specs.Sound.{IsSound}
use Rattle.base_interval.specs.Wrapped.{wrapped, wrapped_holds}
use Rattle.base_interval.specs.declared.range.Range.{Range}

-- The sums of the low and of the high ends, modulo 2 ^ w, where both or neither passes the greatest word; else any.
abbrev pub add_of : ℕ → Range → Range → Range
add_of w x y = wrapped w (x.lo + y.lo) (x.hi + y.hi)

pub add_sound : IsSound Add add_of
add_sound w m n x y h =
    let low = h.left_low in let high = h.left_high in
    let low_too = h.right_low in let high_too = h.right_high in
    wrapped_holds w (x.lo + y.lo) (x.hi + y.hi) (m + n) (omega arith) (omega arith)
