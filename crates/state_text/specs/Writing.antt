-- The text of a state.
use Rattle.std.specs.Prelude.{ℕ, List, [], ◌∷◌, ◌++◌, Option, Some, None, ◌==◌, slice_get, if◌then◌else◌}
use Rattle.spec_ir.specs.declared.ty.Ty.{Ty}
use Rattle.spec_ir.specs.declared.ty.Ty.TheVariants.{Word, Map as MapOf}
use Rattle.spec_ir.specs.declared.declared.MapType.{MapType}
use Rattle.spec_ir.specs.Specification.{Spec}
use Rattle.semantics_values.specs.declared.value.Cell.{Cell}
use Rattle.semantics_values.specs.declared.entry.KeyAt.TheVariants.{Whole, Rest, At}
use Rattle.semantics_values.specs.States.{State}
use Rattle.semantics_values.specs.Values.{Val, word, map as map_of}
use Rattle.state_cell_text.specs.Digits.{digits_of, hex_digits}
use Rattle.state_cell_text.specs.Keys.{cell_text}
use Rattle.state_cell_text.specs.Places.{Field, state_fields}

-- a cell and a number of w bits, as a line
abbrev pub cell_line : List ℕ → ℕ → ℕ → List ℕ
cell_line cell w v = cell ++ (32 ∷ (hex_digits (digits_of w) v ++ (10 ∷ [])))

module _ (spec : Spec) where
  -- the rest of a map, if it isn't the default
  abbrev pub rest_line : Field → MapType → ℕ → List ℕ
  rest_line f d rest = if rest == d.default then [] else cell_line (cell_text spec f Rest) d.width rest

  -- a listed cell of a map of w bits, if it differs from the rest
  abbrev pub listed_line : Field → ℕ → ℕ → ℕ × Cell → List ℕ
  listed_line f w rest c = if c.1.v == rest then [] else cell_line (cell_text spec f (At c.0)) w c.1.v

  abbrev pub listed_lines : Field → ℕ → ℕ → List (ℕ × Cell) → List ℕ
  listed_lines f w rest [] = []
  listed_lines f w rest (c ∷ cells) = listed_line f w rest c ++ listed_lines f w rest cells

  abbrev pub map_lines : Field → Option MapType → Cell → List (ℕ × Cell) → List ℕ
  map_lines f None rest cells = []
  map_lines f (Some d) rest cells = rest_line f d rest.v ++ listed_lines f d.width rest.v cells

  -- the lines of a field behind the program counter, where it has a type and a value
  abbrev pub lines_as : Field → Ty → Val → List ℕ
  lines_as f (Word w) (word u v) = cell_line (cell_text spec f Whole) w v
  lines_as f (MapOf m) (map_of n rest cells) = map_lines f (slice_get spec.maps m) rest cells
  lines_as f _ _ = []

  -- fields in their order
  abbrev pub field_lines : List Field → List Val → List ℕ
  field_lines [] parts = []
  field_lines (f ∷ fields) [] = []
  field_lines (f ∷ fields) (v ∷ parts) = lines_as f f.1 v ++ field_lines fields parts

  abbrev pub all_lines : List Field → State → List ℕ
  all_lines [] s = []
  all_lines (f ∷ fields) s = cell_line f.0 32 s.pc ++ field_lines fields s.parts

  -- The text of a state: the program counter, then the other fields.
  abbrev pub state_text : State → List ℕ
  state_text s = all_lines (state_fields spec) s
