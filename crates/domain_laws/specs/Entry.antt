-- The element of an entry.
use Rattle.std.specs.Prelude.{ℕ, suc, ◌==◌, List, [], ◌∷◌, if◌then◌else◌}
use Rattle.base_trait.specs.Algebra.{Algebra}
use Rattle.abstract_map_laws.specs.declared.cell.AbstractCell.{AbstractCell}
use Rattle.abstract_map_laws.specs.Calls.{update_of}
use Rattle.abstract_map_laws.specs.Keys.{one}
use Rattle.abstract_map_laws.specs.Maps.{Map}
use Rattle.semantics_values.specs.declared.entry.GivenNumber.{GivenNumber}
use Rattle.semantics_values.specs.declared.entry.GivenNumber.TheVariants.{One, Any, Range}
use Rattle.semantics_values.specs.declared.entry.KeyAt.{KeyAt}
use Rattle.semantics_values.specs.declared.entry.KeyAt.TheVariants.{At}
use Rattle.semantics_values.specs.declared.entry.Line.{Line}
use Rattle.semantics.specs.Entries.{given_rest, given_word}
use Rattle.abstract_value_laws.specs.Abs.{Abs, Parts, no_part, part, word, map}
use Rattle.domain_laws.specs.declared.field.Field.{Field}
use Rattle.domain_laws.specs.declared.field.Field.TheVariants as field

module _ {W N C : Type 0} (B : Algebra W N C) (c : C) where
  -- the word of what is given
  abbrev pub given : ℕ → GivenNumber → W
  given w (One v) = B.words.constant c w v
  given w Any = B.words.any c w
  given w (Range lo hi) = B.words.range c w lo hi

  -- a cell that no instruction has written
  abbrev pub given_cell : ℕ → GivenNumber → AbstractCell W N
  given_cell w g = record { word = given w g; note = B.notes.entry }

  -- every key has what is given
  abbrev pub map_of : ℕ → GivenNumber → Map W N
  map_of w g = record { width = w; rest = given_cell w g; cells = [] }

  -- a map lists at most cap cells
  module _ (cap : ℕ) where
    -- a line names a cell by its key
    abbrev pub with_cell : KeyAt → GivenNumber → Map W N → Map W N
    with_cell (At k) g m = update_of B c cap m (one k) (given_cell m.width g)
    with_cell _ g m = m

    -- the cells that lines name in field number n, the first line last
    abbrev pub with_cells : ℕ → List Line → Map W N → Map W N
    with_cells n [] m = m
    with_cells n (l ∷ lines) m = if l.field == n then with_cell l.key l.given (with_cells n lines m) else with_cells n lines m

    module _ (lines : List Line) where
      -- field number n: an unnamed word is 0, and a key that is not named has the map's `*` line, or else the default
      abbrev pub entry_value : ℕ → Field → Abs W N
      entry_value n (field.Word w) = word w (given w (given_word lines n))
      entry_value n (field.Map m keys width default) = map m (with_cells n lines (map_of width (given_rest lines n default)))

      -- fields that are numbered from n on
      abbrev pub entry_values : ℕ → List Field → Parts W N
      entry_values n [] = no_part
      entry_values n (f ∷ fields) = part (entry_value n f) (entry_values (suc n) fields)
