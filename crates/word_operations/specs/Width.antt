-- Words of w bits are the whole numbers below 2 ^ w.
use Rattle.std.specs.Prelude.{ℕ, ◌≤◌}

-- A width: 1 to 64 bits.
abbrev pub IsWidth : ℕ → Type 0
IsWidth w = (1 ≤ w) × (w ≤ 64)
