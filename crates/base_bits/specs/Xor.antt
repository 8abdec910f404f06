-- Xor.
use Rattle.std.specs.Prelude.{bit_or, bit_xor}
use Rattle.base_bits.specs.Known.{without}
use Rattle.base_bits.specs.declared.known.Known.{Known}

-- the unknown bits are those of either
abbrev pub xor_of : Known → Known → Known
xor_of x y = record { v = without (bit_xor x.v y.v) (bit_or x.m y.m); m = bit_or x.m y.m }
