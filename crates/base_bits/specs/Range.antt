-- Ranges of numbers.
use Rattle.std.specs.Prelude.{ℕ, ◌-◌, ◌^◌, bit_xor}
use Rattle.std.specs.Int.{w64, leading_zeros}
use Rattle.base_bits.specs.Known.{without}
use Rattle.base_bits.specs.declared.known.Known.{Known}

-- the highest set bit of a number below 2 ^ 64, and all bits below it
abbrev pub all_to_highest : ℕ → ℕ
all_to_highest n = 2 ^ (64 - leading_zeros w64 n) - 1

-- unknown are the highest bit in which both ends differ, and all below it
abbrev pub range_of : ℕ → ℕ → Known
range_of low high = record { v = without low (all_to_highest (bit_xor low high)); m = all_to_highest (bit_xor low high) }
