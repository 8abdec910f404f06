-- Differences and negations.
use Rattle.std.specs.Prelude.{ℕ, bit_or, bit_xor}
use Rattle.word_operations.specs.Op2.{op2_of}
use Rattle.word_operations.specs.declared.kinds.BinaryOperation.TheVariants.{Add, Sub}
use Rattle.base_bits.specs.Known.{without, exact}
use Rattle.base_bits.specs.declared.known.Known.{Known}

-- the difference of the least numbers
abbrev pub least_difference : ℕ → Known → Known → ℕ
least_difference w x y = op2_of Sub w x.v y.v

-- the bits in which the greatest difference differs from the least: where x and y are known, the borrows do
abbrev pub difference_changes : ℕ → Known → Known → ℕ
difference_changes w x y = bit_xor (op2_of Add w (least_difference w x y) x.m) (op2_of Sub w (least_difference w x y) y.m)

-- the unknown bits of a difference
abbrev pub difference_unknown : ℕ → Known → Known → ℕ
difference_unknown w x y = bit_or (difference_changes w x y) (bit_or x.m y.m)

abbrev pub sub_of : ℕ → Known → Known → Known
sub_of w x y = record { v = without (least_difference w x y) (difference_unknown w x y); m = difference_unknown w x y }

-- 0 less the word
abbrev pub neg_of : ℕ → Known → Known
neg_of w x = sub_of w (exact 0) x
