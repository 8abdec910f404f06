-- Differences.
use Rattle.std.proofs.Common.{ℕ, ◌+◌, ◌-◌, ◌^◌, arith}
use Rattle.word_operations.specs.declared.kinds.BinaryOperation.TheVariants.{Sub}
use Rattle.base_interval.specs.Sound.{IsSound}
use Rattle.base_interval.specs.Wrapped.{wrapped, wrapped_holds}
use Rattle.base_interval.specs.declared.range.Range.{Range}

-- The low end less the other high end to the high end less the other low end, modulo 2 ^ w, where both or neither
-- is below 0; else any.
abbrev pub sub_of : ℕ → Range → Range → Range
sub_of w x y = wrapped w (x.lo + 2 ^ w - y.hi) (x.hi + 2 ^ w - y.lo)

pub sub_sound : IsSound Sub sub_of
sub_sound w m n x y h =
    let low = h.left_low in let high = h.left_high in
    let low_too = h.right_low in let high_too = h.right_high in
    wrapped_holds w (x.lo + 2 ^ w - y.hi) (x.hi + 2 ^ w - y.lo) (m + 2 ^ w - n) (omega arith) (omega arith)
