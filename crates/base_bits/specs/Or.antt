-- Or.
use Rattle.std.specs.Prelude.{bit_or}
use Rattle.base_bits.specs.Known.{without}
use Rattle.base_bits.specs.declared.known.Known.{Known}

-- a bit is known 1 where either is, and else unknown where either is
abbrev pub or_of : Known → Known → Known
or_of x y = record { v = bit_or x.v y.v; m = without (bit_or x.m y.m) (bit_or x.v y.v) }
