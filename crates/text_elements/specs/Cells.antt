-- The text of an element of cells.
use Rattle.std.specs.Prelude.{ℕ, List, [], ◌∷◌, ◌++◌, codes}
use Rattle.spec_ir.specs.Specification.{Spec}
use Rattle.semantics_values.specs.declared.entry.KeyAt.{KeyAt}
use Rattle.semantics_values.specs.declared.entry.KeyAt.TheVariants.{Whole, Rest, At}
use Rattle.abstract_map_laws.specs.declared.cell.AbstractCell.{AbstractCell}
use Rattle.abstract_map_laws.specs.Maps.{Map}
use Rattle.abstract_value_laws.specs.Abs.{Abs, Parts, word, map, no_part, part}
use Rattle.state_cell_text.specs.Keys.{cell_text}
use Rattle.state_cell_text.specs.Places.{Field}
use Rattle.text_words.specs.Texts.{Texts, noted}

module _ {W N : Type 0} (texts : Texts W N) (spec : Spec) where
  -- a word field: its name and its word
  abbrev pub word_line : Field → ℕ → W → List ℕ
  word_line f w x = cell_text spec f Whole ++ (codes " " ++ (texts.word w x ++ codes "\n"))

  -- a cell of a map: its word, and where it came from
  abbrev pub cell_line : Field → KeyAt → ℕ → AbstractCell W N → List ℕ
  cell_line f key w c = cell_text spec f key ++ (codes " " ++ (noted texts w c.word c.note ++ codes "\n"))

  abbrev pub listed_lines : Field → ℕ → List (ℕ × AbstractCell W N) → List ℕ
  listed_lines f w [] = []
  listed_lines f w (c ∷ cells) = cell_line f (At c.0) w c.1 ++ listed_lines f w cells

  -- a map: its rest, then its listed cells
  abbrev pub map_lines : Field → Map W N → List ℕ
  map_lines f m = cell_line f Rest m.width m.rest ++ listed_lines f m.width m.cells

  -- a field, where its value is a word or a map
  abbrev pub value_lines : Field → Abs W N → List ℕ
  value_lines f (word w x) = word_line f w x
  value_lines f (map n m) = map_lines f m
  value_lines f _ = []

  -- fields in their order
  abbrev pub field_lines : List Field → Parts W N → List ℕ
  field_lines [] values = []
  field_lines (f ∷ fields) no_part = []
  field_lines (f ∷ fields) (part x values) = value_lines f x ++ field_lines fields values

  -- Of the fields of a state, those behind the counter have a value.
  abbrev pub cell_lines : List Field → Parts W N → List ℕ
  cell_lines [] values = []
  cell_lines (counter ∷ fields) values = field_lines fields values
