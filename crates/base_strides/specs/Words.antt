-- Words.
use Rattle.std.specs.Prelude.{ℕ, List, ◌≤◌, ◌<◌, ◌^◌}
use Rattle.base_strides.specs.declared.stretch.Stretch.{Stretch}

pub data Word : Type 0 where
  Listed : List ℕ → Word
  Strided : Stretch → Word

-- the ends of a stretch are in order, and words of w bits
abbrev pub IsEnds : ℕ → Stretch → Type 0
IsEnds w x = (x.lo ≤ x.hi) × (x.hi < 2 ^ w)
