-- And.
use Rattle.std.specs.Prelude.{bit_and}
use Rattle.base_bits.specs.Known.{without, greatest}
use Rattle.base_bits.specs.declared.known.Known.{Known}

-- a bit is known 1 where both are, and unknown where both may be 1 and it isn't known
abbrev pub and_of : Known → Known → Known
and_of x y = record { v = bit_and x.v y.v; m = without (bit_and (greatest x) (greatest y)) (bit_and x.v y.v) }
