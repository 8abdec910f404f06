-- Truncations.
use Rattle.std.proofs.Common.{ℕ}
use Rattle.word_operations.specs.Casts.{trunc_of as trunc_number}
use Rattle.base_trait.specs.Laws.{IsExtension}
use Rattle.base_interval.specs.Range.{Fits, Holds}
use Rattle.base_interval.specs.Sound.{HoldsWord}
use Rattle.base_interval.specs.Wrapped.{wrapped, wrapped_holds}
use Rattle.base_interval.specs.declared.range.Range.{Range}

-- the lowest bits of both ends, where the bits above agree; else any
abbrev pub trunc_of : ℕ → Range → Range
trunc_of to x = wrapped to x.lo x.hi

pub trunc_sound : (from to n : ℕ) (x : Range) → IsExtension to from → Fits from x → Holds x n → HoldsWord to (trunc_of to x) (trunc_number from to n)
trunc_sound from to n x widths fits h = wrapped_holds to x.lo x.hi n h.0 h.1
