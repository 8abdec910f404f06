-- Signed quotients.
use Rattle.std.proofs.Common.{ℕ}
use Rattle.word_operations.specs.declared.kinds.BinaryOperation.TheVariants.{DivU, DivS}
use Rattle.word_operations.proofs.Bounds.{div_s_low}
use Rattle.base_interval.specs.DivU.{div_u_of, div_u_sound}
use Rattle.base_interval.specs.Signs.{where_low, where_low_sound}
use Rattle.base_interval.specs.Sound.{IsSound}
use Rattle.base_interval.specs.declared.range.Range.{Range}

-- where no sign bit is set, as unsigned; else any
abbrev pub div_s_of : ℕ → Range → Range → Range
div_s_of w x y = where_low div_u_of w x y

pub div_s_sound : IsSound DivS div_s_of
div_s_sound = where_low_sound DivU DivS div_u_of div_s_low div_u_sound
