-- Words of w bits of which each bit is known or unknown. m has the unknown bits, and v the known ones.
use Rattle.std.specs.Prelude.{◌≡◌, ℕ, ◌-◌, ◌^◌, ◌<◌, Bool, ◌==◌, ◌&&◌, nat_lt, bit_and, bit_or}
use Rattle.base_bits.specs.declared.known.Known.{Known}

-- n & ~m: the bits of n that are none of m
abbrev pub without : ℕ → ℕ → ℕ
without n m = n - bit_and n m

-- the number is one of w bits, and its known bits are v
pub record Describes (w n : ℕ) (x : Known) : Type 0 where
  pub below : n < 2 ^ w
  pub known : without n x.m ≡ x.v

-- v and m are below 2 ^ w and share no bit
pub record Fits (w : ℕ) (x : Known) : Type 0 where
  pub known : x.v < 2 ^ w
  pub unknown : x.m < 2 ^ w
  pub apart : bit_and x.v x.m ≡ 0

-- whether it is so
abbrev pub fits_word : ℕ → Known → Bool
fits_word w x = nat_lt x.v (2 ^ w) && (nat_lt x.m (2 ^ w) && (bit_and x.v x.m == 0))

-- the word of one number
abbrev pub exact : ℕ → Known
exact n = record { v = n; m = 0 }

abbrev pub is_exact : Known → Bool
is_exact x = x.m == 0

-- the word of every number
abbrev pub any : ℕ → Known
any w = record { v = 0; m = 2 ^ w - 1 }

-- the greatest number that the word describes; the least is v
abbrev pub greatest : Known → ℕ
greatest x = bit_or x.v x.m
