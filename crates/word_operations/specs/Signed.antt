-- The signed reading of a word, in two's complement: the top bit counts -2 ^ (w - 1).
use Rattle.std.specs.Prelude.{ℕ, ◌-◌, ◌*◌, ◌^◌, ℤ, pos, ◌-ℤ◌, neg_ℤ, ◌≤ℤ◌, ◌<ℤ◌, nat_lt, unsigned_abs, if◌then◌else◌}
use Rattle.std.specs.Int.{int_rem_euclid}

-- the signed reading of the word x: 2 ^ w is taken off where the top bit is set
unfoldable pub signed : ℕ → ℕ → ℤ
signed w x = if nat_lt (2 * x) (2 ^ w) then pos x else pos x -ℤ pos (2 ^ w)

-- the word that is z modulo 2 ^ w
unfoldable pub unsigned : ℕ → ℤ → ℕ
unsigned w z = unsigned_abs (int_rem_euclid z (pos (2 ^ w)))

-- z is a signed reading of w bits: it lies from -2 ^ (w - 1) to 2 ^ (w - 1) - 1.
abbrev pub IsReading : ℕ → ℤ → Type 0
IsReading w z = (neg_ℤ (pos (2 ^ (w - 1))) ≤ℤ z) × (z <ℤ pos (2 ^ (w - 1)))
