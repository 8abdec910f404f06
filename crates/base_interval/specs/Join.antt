-- Hulls.
use Rattle.std.specs.Prelude.{min, max}
use Rattle.base_interval.specs.Range.{from_to}
use Rattle.base_interval.specs.declared.range.Range.{Range}

-- from the lesser low end to the greater high end
abbrev pub join_of : Range → Range → Range
join_of x y = from_to (min x.lo y.lo) (max x.hi y.hi)
