-- Conjunctions, bit by bit.
use Rattle.std.proofs.Common.{ℕ, min, arith, zero-le}
use Rattle.word_operations.specs.declared.kinds.BinaryOperation.TheVariants.{And}
use Rattle.word_operations.proofs.Bounds.{and_le}
use Rattle.base_interval.specs.Range.{from_to}
use Rattle.base_interval.specs.Sound.{IsSound}
use Rattle.base_interval.specs.declared.range.Range.{Range}

-- at most each of the operands
abbrev pub and_of : ℕ → Range → Range → Range
and_of w x y = from_to 0 (min x.hi y.hi)

pub and_sound : IsSound And and_of
and_sound w m n x y h =
    let high = h.left_high in let high_too = h.right_high in let fits = h.left_fits in
    let at_most = and_le w m n in
    ((zero-le, omega arith), omega arith)
