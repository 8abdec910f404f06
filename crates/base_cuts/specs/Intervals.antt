-- How intervals are cut.
use Rattle.std.specs.Prelude.{ℕ, min, max, Option, Some, None, nat_le, if◌then◌else◌}
use Rattle.base_interval.specs.Range.{from_to}
use Rattle.base_interval.specs.declared.range.Range.{Range}
use Rattle.base_cuts.specs.Cuts.{Cuts}

-- the interval, if its ends are in order
abbrev pub if_ordered : ℕ → ℕ → Option Range
if_ordered low high = if nat_le low high then Some (from_to low high) else None

abbrev pub interval_cuts : Cuts Range (Unit {0})
interval_cuts = record { meet = λ c w x low high. if_ordered (max x.lo low) (min x.hi high) }
