-- Decode rows in groups: a tree that asks for bits of a word.
use Rattle.std.specs.Prelude.{◌≡◌, ℕ, Bool, Option, Some, None, List, [], ◌∷◌, slice_get, if◌then◌else◌}
pub use Rattle.spec_ir.specs.Rows.{bit}
use Rattle.spec_ir.specs.Specification.{Row}
use Rattle.semantics.specs.Decode.{row_met}

-- numbers of rows, ascending; or a bit, with the rows that words without it may meet, and those for words with it
pub data Tree : Type 0 where
  group : List ℕ → Tree
  fork : ℕ → Tree → Tree → Tree

-- the group of a word
abbrev pub group_at : ℕ → Tree → List ℕ
group_at code (group numbers) = numbers
group_at code (fork n without_ with_) = if bit code n then group_at code with_ else group_at code without_

-- the rows of a group
abbrev pub with_row : Option Row → List Row → List Row
with_row None rows = rows
with_row (Some row) rows = row ∷ rows

abbrev pub picked : List Row → List ℕ → List Row
picked rows [] = []
picked rows (n ∷ numbers) = with_row (slice_get rows n) (picked rows numbers)

-- The row that a word meets is that which it meets in its group: grouping loses no row.
abbrev pub LosesNone : List Row → Tree → List Row → Type 0
LosesNone rows tree all = (code : ℕ) → row_met code (picked rows (group_at code tree)) ≡ row_met code all

-- No word with this value at a bit meets the row of this number.
abbrev pub IsMissed : List Row → ℕ → ℕ → Bool → Type 0
IsMissed rows number n value = (code : ℕ) (rest : List Row) → bit code n ≡ value → row_met code (with_row (slice_get rows number) rest) ≡ row_met code rest
