-- Signed remainders.
use Rattle.std.proofs.Common.{ℕ}
use Rattle.word_operations.specs.declared.kinds.BinaryOperation.TheVariants.{RemU, RemS}
use Rattle.word_operations.proofs.Bounds.{rem_s_low}
use Rattle.base_interval.specs.RemU.{rem_u_of, rem_u_sound}
use Rattle.base_interval.specs.Signs.{where_low, where_low_sound}
use Rattle.base_interval.specs.Sound.{IsSound}
use Rattle.base_interval.specs.declared.range.Range.{Range}

-- where no sign bit is set, as unsigned; else any
abbrev pub rem_s_of : ℕ → Range → Range → Range
rem_s_of w x y = where_low rem_u_of w x y

pub rem_s_sound : IsSound RemS rem_s_of
rem_s_sound = where_low_sound RemU RemS rem_u_of rem_s_low rem_u_sound
