-- Which states an entry describes.
use Rattle.std.specs.Prelude.{◌≡◌, ℕ, suc, ◌<◌, ◌≤◌, ◌^◌, ◌==◌, Bool, true, false, Option, Some, None, List, [], ◌∷◌, slice_get, ⊤, if◌then◌else◌}
use Rattle.base_trait.specs.declared.uses.Stamp.TheVariants as stamp
use Rattle.spec_ir.specs.declared.ty.Ty.{Ty}
use Rattle.spec_ir.specs.declared.ty.Ty.TheVariants.{Word, Map as MapOf}
use Rattle.spec_ir.specs.declared.declared.MapType.{MapType}
use Rattle.spec_ir.specs.Environment.{Environment}
use Rattle.semantics_values.specs.declared.value.Cell.{Cell}
use Rattle.semantics_values.specs.declared.entry.GivenNumber.{GivenNumber}
use Rattle.semantics_values.specs.declared.entry.GivenNumber.TheVariants.{One, Any, Range}
use Rattle.semantics_values.specs.declared.entry.KeyAt.{KeyAt}
use Rattle.semantics_values.specs.declared.entry.KeyAt.TheVariants.{Whole, Rest, At}
use Rattle.semantics_values.specs.declared.entry.Line.{Line}
use Rattle.semantics_values.specs.Values.{Val, word, map as map_of, vals, cell_at, put_cell}
use Rattle.semantics_values.specs.Types.{key_count, have_types}
use Rattle.semantics_values.specs.States.{State}

-- A number is one that is given.
abbrev pub IsGiven : GivenNumber → ℕ → Type 0
IsGiven (One v) n = n ≡ v
IsGiven Any n = ⊤
IsGiven (Range lo hi) n = (lo ≤ n) × (n ≤ hi)

-- whether a line speaks of this part of a field
abbrev pub is_key : KeyAt → KeyAt → Bool
is_key Whole Whole = true
is_key Rest Rest = true
is_key (At j) (At k) = j == k
is_key _ _ = false

-- what the lines give of a part of a field, if one of them speaks of it
abbrev pub given_at : List Line → ℕ → KeyAt → Option GivenNumber
given_at [] field key = None
given_at (l ∷ lines) field key = if l.field == field then (if is_key l.key key then Some l.given else given_at lines field key) else given_at lines field key

abbrev pub given_or : Option GivenNumber → GivenNumber → GivenNumber
given_or None g = g
given_or (Some h) g = h

module _ (lines : List Line) (field : ℕ) where
  -- what is given of a word field: 0 where no line names it
  abbrev pub given_word : GivenNumber
  given_word = given_or (given_at lines field Whole) (One 0)

  -- what is given of the cells that no line names by their key: the map's default where there is no line for the rest
  abbrev pub given_rest : ℕ → GivenNumber
  given_rest default = given_or (given_at lines field Rest) (One default)

  abbrev pub given_cell : ℕ → ℕ → GivenNumber
  given_cell default key = given_or (given_at lines field (At key)) (given_rest default)

-- a cell at the entry holds a number that is given
pub record IsEntryCell (g : GivenNumber) (w : ℕ) (cell : Cell) : Type 0 where
  pub stamp : cell.stamp ≡ stamp.Entry
  pub word : cell.v < 2 ^ w
  pub given : IsGiven g cell.v

-- The cells of a map are those that an entry gives.
pub record IsEntryMap (env : Environment) (lines : List Line) (field : ℕ) (d : MapType) (rest : Cell) (cells : List (ℕ × Cell)) : Type 0 where
  pub others : IsEntryCell (given_rest lines field d.default) d.width rest
  pub each : (k : ℕ) → k < key_count env d.key → IsEntryCell (given_cell lines field d.default k) d.width (cell_at rest cells k)

module _ (env : Environment) (lines : List Line) where
  abbrev pub IsEntryMapOf : ℕ → Option MapType → Cell → List (ℕ × Cell) → Type 0
  IsEntryMapOf field None rest cells = ⊥
  IsEntryMapOf field (Some d) rest cells = IsEntryMap env lines field d rest cells

  -- Field number `field` of a state is one that an entry gives.
  abbrev pub IsEntryField : ℕ → Ty → Val → Type 0
  IsEntryField field (Word w) (word u v) = (u ≡ w) × (v < 2 ^ w) × IsGiven (given_word lines field) v
  IsEntryField field (MapOf m) (map_of n rest cells) = (n ≡ m) × IsEntryMapOf field (slice_get env.maps m) rest cells
  IsEntryField field _ _ = ⊥

  abbrev pub AreEntryFields : ℕ → List Ty → List Val → Type 0
  AreEntryFields field [] [] = ⊤
  AreEntryFields field (t ∷ types) (v ∷ vs) = IsEntryField field t v × AreEntryFields (suc field) types vs
  AreEntryFields field _ _ = ⊥

-- A state is one that an entry describes, where the fields of states after the counter have these types.
pub record IsEntryState (env : Environment) (types : List Ty) (pc : ℕ) (lines : List Line) (s : State) : Type 0 where
  pub counter : s.pc ≡ pc
  pub typed : have_types env (vals s.parts) types ≡ true
  pub fields : AreEntryFields env lines 1 types s.parts

-- ---- the one state of an entry that gives one number for each cell it names

-- the number that is given, where it is one
abbrev pub one_number : GivenNumber → ℕ
one_number (One v) = v
one_number Any = 0
one_number (Range lo hi) = lo

abbrev pub entry_cell : ℕ → Cell
entry_cell v = record { v = v; stamp = stamp.Entry }

-- the cells with that of one more line
abbrev pub with_line : KeyAt → GivenNumber → List (ℕ × Cell) → List (ℕ × Cell)
with_line (At k) g cells = put_cell k (entry_cell (one_number g)) cells
with_line _ g cells = cells

-- the cells of a field that lines name, in the order of their keys
abbrev pub named_cells : List Line → ℕ → List (ℕ × Cell)
named_cells [] field = []
named_cells (l ∷ lines) field = if l.field == field then with_line l.key l.given (named_cells lines field) else named_cells lines field

module _ (env : Environment) (lines : List Line) where
  abbrev pub entry_map : ℕ → ℕ → Option MapType → Val
  entry_map field m None = map_of m (entry_cell 0) []
  entry_map field m (Some d) = map_of m (entry_cell (one_number (given_rest lines field d.default))) (named_cells lines field)

  abbrev pub entry_field : ℕ → Ty → Val
  entry_field field (MapOf m) = entry_map field m (slice_get env.maps m)
  entry_field field (Word w) = word w (one_number (given_word lines field))
  entry_field field _ = word 1 0

  abbrev pub entry_fields : ℕ → List Ty → List Val
  entry_fields field [] = []
  entry_fields field (t ∷ types) = entry_field field t ∷ entry_fields (suc field) types

-- The state whose rests are those of the lines for the rest or the defaults, and whose listed cells are those
-- that the lines name.
abbrev pub one_state_of : Environment → List Ty → ℕ → List Line → State
one_state_of env types pc lines = record { pc = pc; parts = entry_fields env lines 1 types }
