-- Intervals of numbers, by their ends.
use Rattle.std.specs.Prelude.{ℕ, ◌-◌, ◌^◌, ◌<◌, ◌≤◌, Bool, ◌==◌, ◌&&◌, nat_le, nat_lt}
use Rattle.base_interval.specs.declared.range.Range.{Range}

-- the number lies between the ends
abbrev pub Holds : Range → ℕ → Type 0
Holds x n = (x.lo ≤ n) × (n ≤ x.hi)

-- whether it does
abbrev pub has : Range → ℕ → Bool
has x n = nat_le x.lo n && nat_le n x.hi

-- the interval is one of words of w bits
abbrev pub Fits : ℕ → Range → Type 0
Fits w x = (x.lo ≤ x.hi) × (x.hi < 2 ^ w)

-- whether it is
abbrev pub is_of : ℕ → Range → Bool
is_of w x = nat_le x.lo x.hi && nat_lt x.hi (2 ^ w)

-- the numbers from low to high
abbrev pub from_to : ℕ → ℕ → Range
from_to low high = record { lo = low; hi = high }

-- one number alone
abbrev pub one : ℕ → Range
one n = from_to n n

-- whether it holds one number alone
abbrev pub is_one : Range → Bool
is_one x = x.lo == x.hi

-- every word of w bits
abbrev pub all : ℕ → Range
all w = from_to 0 (2 ^ w - 1)

-- the inner interval lies inside the outer one
abbrev pub IsWithin : Range → Range → Type 0
IsWithin outer inner = (outer.lo ≤ inner.lo) × (inner.hi ≤ outer.hi)

-- whether it does
abbrev pub is_within : Range → Range → Bool
is_within outer inner = nat_le outer.lo inner.lo && nat_le inner.hi outer.hi
