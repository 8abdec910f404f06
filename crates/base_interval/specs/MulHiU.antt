-- High halves of products.
use Rattle.std.proofs.Common.{ℕ}
use Rattle.word_operations.specs.Op2.{op2_of}
use Rattle.word_operations.specs.declared.kinds.BinaryOperation.TheVariants.{MulHiU}
use Rattle.word_operations.proofs.Bounds.{mul_hi_u_mono}
use Rattle.word_operations.proofs.Fits.{op2_of_fits}
use Rattle.base_interval.specs.Range.{from_to}
use Rattle.base_interval.specs.Sound.{IsSound}
use Rattle.base_interval.specs.declared.range.Range.{Range}

-- from that of the low ends to that of the high ends
abbrev pub mul_hi_u_of : ℕ → Range → Range → Range
mul_hi_u_of w x y = from_to (op2_of MulHiU w x.lo y.lo) (op2_of MulHiU w x.hi y.hi)

pub mul_hi_u_sound : IsSound MulHiU mul_hi_u_of
mul_hi_u_sound w m n x y h = (
  (mul_hi_u_mono w x.lo m y.lo n h.left_low h.right_low, mul_hi_u_mono w m x.hi n y.hi h.left_high h.right_high),
  op2_of_fits MulHiU w x.hi y.hi h.width h.left_fits h.right_fits,
)
