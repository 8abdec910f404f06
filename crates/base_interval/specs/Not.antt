-- Complements.
use Rattle.std.proofs.Common.{ℕ, ◌-◌, ◌^◌, arith, pow_pos}
use Rattle.word_operations.specs.declared.kinds.UnaryOperation.TheVariants.{Not}
use Rattle.base_interval.specs.Range.{from_to}
use Rattle.base_interval.specs.Sound.{IsSoundOfOne}
use Rattle.base_interval.specs.declared.range.Range.{Range}

-- from the complement of the high end to that of the low end
abbrev pub not_of : ℕ → Range → Range
not_of w x = from_to (2 ^ w - 1 - x.hi) (2 ^ w - 1 - x.lo)

pub not_sound : IsSoundOfOne Not not_of
not_sound w n x width fits h =
    let low = h.0 in let high = h.1 in
    let some = pow_pos w in
    ((omega arith, omega arith), omega arith)
