-- The words that an entry gives tracked cells.
use Rattle.std.specs.Prelude.{ℕ, List, map as map_of, Option, Some}
use Rattle.semantics_values.specs.declared.entry.GivenNumber.{GivenNumber}
use Rattle.semantics_values.specs.declared.entry.GivenNumber.TheVariants as given
use Rattle.semantics_values.specs.declared.entry.KeyAt.{KeyAt}
use Rattle.semantics_values.specs.declared.entry.KeyAt.TheVariants.{Whole, At}
use Rattle.semantics_values.specs.declared.entry.Line.{Line}
use Rattle.semantics.specs.Entries.{given_cell, given_word}
use Rattle.domain_laws.specs.declared.field.Field.{Field}
use Rattle.domain_laws.specs.declared.field.Field.TheVariants as field
use Rattle.domain_laws.specs.Entries.{field_at}
use Rattle.domain_affine_base.specs.Join.{range_of}
use Rattle.domain_affine_base.specs.declared.word.Word.{Word}
use Rattle.domain_affine_base.specs.declared.word.Word.TheVariants.{Any, Const}

-- a constant where one number is given, else any
abbrev pub given_number : GivenNumber → Word
given_number (given.One v) = Const v
given_number given.Any = Any
given_number (given.Range lo hi) = range_of lo hi

module _ (lines : List Line) where
  -- What is given of a key in field number n: an unnamed word is 0, and a key that is not named has the map's `*` line, or
  -- else the default.
  abbrev pub given_of : ℕ → Option Field → KeyAt → GivenNumber
  given_of n (Some (field.Word w)) Whole = given_word lines n
  given_of n (Some (field.Map m keys width default)) (At k) = given_cell lines n default k
  given_of n _ _ = given.Any

  abbrev pub entry_words : List Field → List (ℕ × KeyAt) → List Word
  entry_words fields cells = map_of (λ cell. given_number (given_of cell.0 (field_at fields cell.0) cell.1)) cells
