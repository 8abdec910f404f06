-- Zero extensions.
use Rattle.std.proofs.Common.{ℕ}
use Rattle.word_operations.specs.Casts.{zext_of as zext_number}
use Rattle.word_operations.proofs.Fits.{zext_of_fits}
use Rattle.base_trait.specs.Laws.{IsExtension}
use Rattle.base_interval.specs.Range.{Fits, Holds}
use Rattle.base_interval.specs.Sound.{HoldsWord}
use Rattle.base_interval.specs.declared.range.Range.{Range}

-- the same numbers
abbrev pub zext_of : Range → Range
zext_of x = x

pub zext_sound : (from to n : ℕ) (x : Range) → IsExtension from to → Fits from x → Holds x n → HoldsWord to (zext_of x) (zext_number from to n)
zext_sound from to n x widths fits h = (h, zext_of_fits from to x.hi widths.order fits.1)
