-- Right shifts, with zeros.
use Rattle.std.proofs.Common.{ℕ}
use Rattle.word_operations.specs.Op2.{op2_of}
use Rattle.word_operations.specs.declared.kinds.BinaryOperation.TheVariants.{ShrU}
use Rattle.word_operations.proofs.Bounds.{shr_u_mono}
use Rattle.word_operations.proofs.Fits.{op2_of_fits}
use Rattle.base_interval.specs.Range.{from_to}
use Rattle.base_interval.specs.Sound.{IsSound, low_of_right}
use Rattle.base_interval.specs.declared.range.Range.{Range}

-- from the low end by the most places to the high end by the fewest
abbrev pub shr_u_of : ℕ → Range → Range → Range
shr_u_of w x y = from_to (op2_of ShrU w x.lo y.hi) (op2_of ShrU w x.hi y.lo)

pub shr_u_sound : IsSound ShrU shr_u_of
shr_u_sound w m n x y h = (
  (shr_u_mono w x.lo m y.hi n h.left_low h.right_high, shr_u_mono w m x.hi n y.lo h.left_high h.right_low),
  op2_of_fits ShrU w x.hi y.lo h.width h.left_fits (low_of_right w m n x y h),
)
