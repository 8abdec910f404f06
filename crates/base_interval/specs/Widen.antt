-- Widening.
use Rattle.std.specs.Prelude.{ℕ, ◌+◌, ◌-◌, ◌^◌, ◌==◌, nat_le, if◌then◌else◌}
use Rattle.base_interval.specs.Range.{from_to}
use Rattle.base_interval.specs.declared.range.Range.{Range}

-- An old end that the new interval does not pass stays. A low end that is passed becomes 0, a high one the
-- greatest word.
abbrev pub widened_low : ℕ → ℕ → ℕ
widened_low old new = if nat_le old new then old else 0

abbrev pub widened_high : ℕ → ℕ → ℕ → ℕ
widened_high w old new = if nat_le new old then old else 2 ^ w - 1

abbrev pub widen_of : ℕ → Range → Range → Range
widen_of w old new = from_to (widened_low old.lo new.lo) (widened_high w old.hi new.hi)

-- how many ends can still be passed
abbrev pub low_rank : ℕ → ℕ
low_rank low = if low == 0 then 0 else 1

abbrev pub high_rank : ℕ → ℕ → ℕ
high_rank w high = if high == 2 ^ w - 1 then 0 else 1

abbrev pub rank_of : ℕ → Range → ℕ
rank_of w x = low_rank x.lo + high_rank w x.hi
