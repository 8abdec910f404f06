-- Negations.
use Rattle.std.proofs.Common.{ℕ, ◌-◌, ◌^◌, arith}
use Rattle.word_operations.specs.declared.kinds.UnaryOperation.TheVariants.{Neg}
use Rattle.base_interval.specs.Sound.{IsSoundOfOne}
use Rattle.base_interval.specs.Wrapped.{wrapped, wrapped_holds}
use Rattle.base_interval.specs.declared.range.Range.{Range}

-- The negations of the ends, which change places, where 0 is not among several numbers; else any.
abbrev pub neg_of : ℕ → Range → Range
neg_of w x = wrapped w (2 ^ w - x.hi) (2 ^ w - x.lo)

pub neg_sound : IsSoundOfOne Neg neg_of
neg_sound w n x width fits h =
    let low = h.0 in let high = h.1 in
    wrapped_holds w (2 ^ w - x.hi) (2 ^ w - x.lo) (2 ^ w - n) (omega arith) (omega arith)
