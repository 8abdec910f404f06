-- Comparisons.
use Rattle.std.specs.Prelude.{ℕ, ◌-◌, ◌^◌, ◌<◌, ◌==◌, ◌&&◌, not, bit_and, bit_or, bit_xor}
use Rattle.word_operations.specs.Cmp.{cmp_of}
use Rattle.word_operations.specs.declared.kinds.WordComparison.{WordComparison}
use Rattle.word_operations.specs.declared.kinds.WordComparison.TheVariants.{Eq, Ne, LtU, LeU, LtS, LeS}
use Rattle.base_trait.specs.declared.tri.Tri.{Tri}
use Rattle.base_bits.specs.Known.{without, greatest, is_exact}
use Rattle.base_bits.specs.declared.compare.Ends.{Ends}
use Rattle.base_bits.specs.declared.known.Known.{Known}

-- equal where they agree on the bits that both know, and surely equal where both are one number
abbrev pub equal_of : Known → Known → Tri
equal_of x y = record {
  may_true = without (bit_xor x.v y.v) (bit_or x.m y.m) == 0;
  may_false = not (is_exact x && (is_exact y && (x.v == y.v)));
}

-- the other way round
abbrev pub turned : Tri → Tri
turned t = record { may_true = t.may_false; may_false = t.may_true }

-- both ends are words of w bits
abbrev pub AreWords : ℕ → Ends → Type 0
AreWords w e = (e.low < 2 ^ w) × (e.high < 2 ^ w)

-- the least and the greatest number
abbrev pub unsigned_ends : Known → Ends
unsigned_ends x = record { low = x.v; high = greatest x }

-- an unknown sign bit counts below 0
abbrev pub signed_ends : ℕ → Known → Ends
signed_ends w x = record { low = bit_or x.v (bit_and x.m (2 ^ (w - 1))); high = bit_or x.v (without x.m (2 ^ (w - 1))) }

-- true of the lowest and the highest, or false of the highest and the lowest
abbrev pub ordered_of : WordComparison → ℕ → Ends → Ends → Tri
ordered_of k w x y = record { may_true = cmp_of k w x.low y.high; may_false = not (cmp_of k w x.high y.low) }

abbrev pub compared : WordComparison → ℕ → Known → Known → Tri
compared Eq w x y = equal_of x y
compared Ne w x y = turned (equal_of x y)
compared LtU w x y = ordered_of LtU w (unsigned_ends x) (unsigned_ends y)
compared LeU w x y = ordered_of LeU w (unsigned_ends x) (unsigned_ends y)
compared LtS w x y = ordered_of LtS w (signed_ends w x) (signed_ends w y)
compared LeS w x y = ordered_of LeS w (signed_ends w x) (signed_ends w y)
