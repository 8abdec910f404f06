-- What is read of the lines of an element of cells.
use Rattle.std.specs.Prelude.{ℕ, nat_lt, Bool, List, [], ◌∷◌, length, take, drop, Option, Some, None, option_map, codes, slice_get, if◌then◌else◌}
use Rattle.std.specs.Option.{option_and_then, option_zip}
use Rattle.spec_ir.specs.declared.ty.Ty.{Ty}
use Rattle.spec_ir.specs.declared.ty.Ty.TheVariants.{Word, Map as MapOf}
use Rattle.spec_ir.specs.declared.declared.MapType.{MapType}
use Rattle.spec_ir.specs.Specification.{Spec}
use Rattle.abstract_map_laws.specs.declared.cell.AbstractCell.{AbstractCell}
use Rattle.abstract_value_laws.specs.Abs.{Abs, Parts, word, map, no_part, part}
use Rattle.state_cell_text.specs.Places.{Field, state_fields}
use Rattle.text_words.specs.Reading.{behind}
use Rattle.text_words.specs.Readings.{Readings}
use Rattle.text_lines.specs.Lines.{Lines}
use Rattle.text_part_readers.specs.Keys.{key_behind, key_in, last_key}
use Rattle.text_lines.specs.Outcomes.{Reading, all_said, one, then_read}
use Rattle.text_part_readers.specs.Pieces.{cut, len_before}

-- behind its name, what a line has
abbrev pub behind_name : List ℕ → List ℕ → List ℕ → Option (List ℕ)
behind_name name mark line = option_and_then (behind mark) (behind name line)

-- KEY and what stands behind it, in a line `NAME[KEY]..`
abbrev pub key_part : List ℕ → List ℕ → Option (List ℕ × List ℕ)
key_part name line = option_and_then (cut 93) (behind_name name (codes "[") line)

-- Of a key and what stands behind it: the key, where it comes behind the last one, and the text of its cell.
abbrev pub keyed : Spec → Ty → Option ℕ → List ℕ × List ℕ → Option (ℕ × List ℕ)
keyed spec ty last parts = option_zip (key_behind last (key_in spec ty parts.0)) (behind (codes " ") parts.1)

-- the same in a line `NAME[KEY] ..`
abbrev pub keyed_text : Spec → List ℕ → Ty → Option ℕ → List ℕ → Option (ℕ × List ℕ)
keyed_text spec name ty last line = option_and_then (keyed spec ty last) (key_part name line)

-- all but the first
abbrev pub behind_counter : List Field → List Field
behind_counter [] = []
behind_counter (counter ∷ fields) = fields

-- a word and a note, where both are
abbrev pub cell_of : {W N : Type 0} → Option W → Option N → Option (AbstractCell W N)
cell_of (Some x) (Some note) = Some (record { word = x; note = note })
cell_of _ _ = None

-- `NAME WORD`: a word field
abbrev pub word_said : {W N : Type 0} → Readings W N → List ℕ → ℕ → List ℕ → Option W
word_said readings name w line = option_and_then (readings.word w) (behind_name name (codes " ") line)

abbrev pub word_read : {W N : Type 0} → Readings W N → List ℕ → ℕ → Lines → Reading (Abs W N)
word_read readings name w ls = then_read (one (word_said readings name w) ls) (λ x others. (Some (word w x), others))

-- Over the readings of words and notes, where `code` tells the addresses of code words.
module _ {W N : Type 0} (readings : Readings W N) (code : ℕ → Bool) where
  -- a word, and from the first space on its note
  abbrev pub cell_in : ℕ → List ℕ → Option (AbstractCell W N)
  cell_in w text = cell_of (readings.word w (take (len_before 32 text) text)) (readings.note code (drop (len_before 32 text) text))

  -- `NAME[*] WORD NOTE`: the rest of a map
  abbrev pub rest_said : List ℕ → ℕ → List ℕ → Option (AbstractCell W N)
  rest_said name w line = option_and_then (cell_in w) (behind_name name (codes "[*] ") line)

  module _ (spec : Spec) where
    -- `NAME[KEY] WORD NOTE`: a listed cell of a map, whose key comes behind the last one
    abbrev pub listed_said : List ℕ → Ty → ℕ → Option ℕ → List ℕ → Option (ℕ × AbstractCell W N)
    listed_said name ty w last line = option_and_then (λ p. option_map (λ c. (p.0, c)) (cell_in w p.1)) (keyed_text spec name ty last line)

    -- ---- fields, where maps may list cap cells

    module _ (cap : ℕ) where
      -- one more listed cell, where there is room
      abbrev pub next_said : List ℕ → Ty → ℕ → List (ℕ × AbstractCell W N) → List ℕ → Option (ℕ × AbstractCell W N)
      next_said name ty w given line = if nat_lt (length given) cap then listed_said name ty w (last_key given) line else None

      -- the listed cells of a map
      abbrev pub listed_read : List ℕ → Ty → ℕ → Lines → List (ℕ × AbstractCell W N) × Lines
      listed_read name ty w ls = all_said (next_said name ty w) [] ls

      -- a map: its rest, then its listed cells
      abbrev pub with_rest : ℕ → ℕ → AbstractCell W N → List (ℕ × AbstractCell W N) × Lines → Reading (Abs W N)
      with_rest m w rest listed = (Some (map m (record { width = w; rest = rest; cells = listed.0 })), listed.1)

      abbrev pub map_read : List ℕ → ℕ → Option MapType → Lines → Reading (Abs W N)
      map_read name m None ls = (None, ls)
      map_read name m (Some d) ls = then_read (one (rest_said name d.width) ls) (λ rest others. with_rest m d.width rest (listed_read name d.key d.width others))

      -- a field that is a word or a map
      abbrev pub value_read : List ℕ → Ty → Lines → Reading (Abs W N)
      value_read name (Word w) ls = word_read readings name w ls
      value_read name (MapOf m) ls = map_read name m (slice_get spec.maps m) ls
      value_read name _ ls = (None, ls)

      -- fields in their order
      abbrev pub fields_read : List Field → Lines → Reading (Parts W N)
      fields_read [] ls = (Some no_part, ls)
      fields_read (f ∷ fields) ls = then_read (value_read f.0 f.1 ls) (λ x others. then_read (fields_read fields others) (λ xs left. (Some (part x xs), left)))

      -- the fields of states but the counter
      abbrev pub states_read : Lines → Reading (Parts W N)
      states_read ls = fields_read (behind_counter (state_fields spec)) ls
