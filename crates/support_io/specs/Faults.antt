-- Counts of faults, in 64 bits.
use Rattle.std.specs.Prelude.{◌≡◌, ℕ, ◌+◌, ◌-◌, ◌^◌, ◌≤◌, min}

-- a count after one more: at its last value it stays there
abbrev pub counted : ℕ → ℕ
counted count = min (count + 1) (2 ^ 64 - 1)

-- The count rose, or stands at its last value.
abbrev pub Rose : ℕ → ℕ → Type 0
Rose old new = counted old ≤ new

-- One fault more was counted: the count rose by one, or stands at its last value.
abbrev pub RoseByOne : ℕ → ℕ → Type 0
RoseByOne old new = new ≡ counted old
