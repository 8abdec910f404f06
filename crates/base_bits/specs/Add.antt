-- Sums.
use Rattle.std.specs.Prelude.{ℕ, bit_or, bit_xor}
use Rattle.word_operations.specs.Op2.{op2_of}
use Rattle.word_operations.specs.declared.kinds.BinaryOperation.TheVariants.{Add}
use Rattle.base_bits.specs.Known.{without}
use Rattle.base_bits.specs.declared.known.Known.{Known}

-- the sum of the least numbers
abbrev pub least_sum : ℕ → Known → Known → ℕ
least_sum w x y = op2_of Add w x.v y.v

-- the bits in which the greatest sum differs from the least: where x and y are known, the carries do
abbrev pub sum_changes : ℕ → Known → Known → ℕ
sum_changes w x y = bit_xor (op2_of Add w (op2_of Add w (least_sum w x y) x.m) y.m) (least_sum w x y)

-- the unknown bits of a sum
abbrev pub sum_unknown : ℕ → Known → Known → ℕ
sum_unknown w x y = bit_or (sum_changes w x y) (bit_or x.m y.m)

abbrev pub add_of : ℕ → Known → Known → Known
add_of w x y = record { v = without (least_sum w x y) (sum_unknown w x y); m = sum_unknown w x y }
