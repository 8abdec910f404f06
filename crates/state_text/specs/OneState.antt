-- The one state that an entry describes, if it gives each cell one number.
use Rattle.std.specs.Prelude.{◌≡◌, ◌⊎◌, ℕ, List, [], ◌∷◌, Option, Some, None, is_some, ◌==◌, Result, Ok, Err, map, slice_get, if◌then◌else◌}
use Rattle.spec_ir.specs.declared.ty.Ty.{Ty}
use Rattle.spec_ir.specs.Specification.{Spec}
use Rattle.semantics_values.specs.declared.entry.KeyAt.{KeyAt}
use Rattle.semantics_values.specs.declared.entry.Line.{Line}
use Rattle.semantics_values.specs.declared.value.Cell.{Cell}
use Rattle.semantics_values.specs.declared.value.State.{State as StateOf}
use Rattle.semantics_values.specs.States.{State}
use Rattle.semantics_values.specs.Types.{environment_of}
use Rattle.semantics_values.specs.Views.{state}
use Rattle.semantics.specs.Entries.{one_state_of, with_line}
use Rattle.state_cell_text.specs.Keys.{cell_text}
use Rattle.state_cell_text.specs.Places.{Field, state_fields}
use Rattle.state_text.specs.declared.entry_error.EntryError.{EntryError}
use Rattle.state_text.specs.declared.entry_error.EntryError.TheVariants.{NotOne, NoMemory}
use Rattle.state_text.specs.Reading.{Entry, single_number}

-- the first line that doesn't give one number
abbrev pub first_open : List Line → Option Line
first_open [] = None
first_open (l ∷ ls) = if is_some (single_number l.given) then first_open ls else Some l

-- the cells of a field with that of one more line
abbrev pub named_with : Line → ℕ → List (ℕ × Cell) → List (ℕ × Cell)
named_with l field cells = if l.field == field then with_line l.key l.given cells else cells

-- the types of fields behind the first
abbrev pub types_behind : List Field → List Ty
types_behind [] = []
types_behind (f ∷ fields) = map (λ g. g.1) fields

module _ (spec : Spec) where
  -- a cell of a field, as a state prints it
  abbrev pub cell_of : Option Field → KeyAt → List ℕ
  cell_of None key = []
  cell_of (Some f) key = cell_text spec f key

  abbrev pub only_state : Option Line → Entry → Result State EntryError
  only_state (Some l) e = Err (NotOne (cell_of (slice_get (state_fields spec) l.field) l.key))
  only_state None e = Ok (one_state_of (environment_of spec) (types_behind (state_fields spec)) e.pc e.lines)

  -- The one state, or the first cell that may have more than one number.
  abbrev pub one_state : Entry → Result State EntryError
  one_state e = only_state (first_open e.lines) e

abbrev pub Agrees : Result StateOf EntryError → Result State EntryError → Type 0
Agrees (Ok s) want = want ≡ Ok (state s)
Agrees (Err e) want = (want ≡ Err e) ⊎ (e ≡ NoMemory)
