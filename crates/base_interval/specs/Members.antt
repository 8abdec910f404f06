-- What is known of the numbers of an interval.
use Rattle.std.specs.Prelude.{ℕ, ◌+◌, ◌-◌, List, Option, Some, None, nat_le, if◌then◌else◌}
use Rattle.std.specs.List.{range_with_len}
use Rattle.base_interval.specs.Range.{is_one}
use Rattle.base_interval.specs.declared.range.Range.{Range}

-- the number, where it is one alone
abbrev pub exact_of : Range → Option ℕ
exact_of x = if is_one x then Some x.lo else None

-- how many numbers there are
abbrev pub size_of : Range → ℕ
size_of x = x.hi - x.lo + 1

-- all of them, ascending, where they are no more than the limit
abbrev pub members_of : Range → ℕ → Option (List ℕ)
members_of x limit = if nat_le (size_of x) limit then Some (range_with_len x.lo (size_of x)) else None
