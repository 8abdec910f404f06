-- The numbers of both.
use Rattle.std.specs.Prelude.{ℕ, Bool, ◌==◌, ◌&&◌, bit_or, bit_xor}
use Rattle.base_bits.specs.Known.{without}
use Rattle.base_bits.specs.declared.known.Known.{Known}

-- the bits that either does not know, or that differ
abbrev pub join_unknown : Known → Known → ℕ
join_unknown x y = bit_or (bit_or x.m y.m) (bit_xor x.v y.v)

-- a bit is known where both know it alike
abbrev pub join_of : Known → Known → Known
join_of x y = record { v = without x.v (join_unknown x y); m = join_unknown x y }

-- the old word knows no bit that the new one does not, and they agree on those that it knows
abbrev pub absorbs_known : Known → Known → Bool
absorbs_known old new = (without new.m old.m == 0) && (without new.v old.m == without old.v old.m)
