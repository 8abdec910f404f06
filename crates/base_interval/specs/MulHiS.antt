-- High halves of signed products.
use Rattle.std.proofs.Common.{ℕ}
use Rattle.word_operations.specs.declared.kinds.BinaryOperation.TheVariants.{MulHiU, MulHiS}
use Rattle.word_operations.proofs.Bounds.{mul_hi_s_low}
use Rattle.base_interval.specs.MulHiU.{mul_hi_u_of, mul_hi_u_sound}
use Rattle.base_interval.specs.Signs.{where_low, where_low_sound}
use Rattle.base_interval.specs.Sound.{IsSound}
use Rattle.base_interval.specs.declared.range.Range.{Range}

-- where no sign bit is set, as unsigned; else any
abbrev pub mul_hi_s_of : ℕ → Range → Range → Range
mul_hi_s_of w x y = where_low mul_hi_u_of w x y

pub mul_hi_s_sound : IsSound MulHiS mul_hi_s_of
mul_hi_s_sound = where_low_sound MulHiU MulHiS mul_hi_u_of mul_hi_s_low mul_hi_u_sound
