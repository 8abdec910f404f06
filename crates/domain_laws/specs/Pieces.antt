-- Pieces of elements by the number of a cell: a cell is a field and a key.
use Rattle.std.specs.Prelude.{ℕ, zero, suc, ◌-◌, ◌^◌, min}
use Rattle.semantics_values.specs.declared.entry.KeyAt.{KeyAt}
use Rattle.semantics_values.specs.declared.entry.KeyAt.TheVariants.{Whole, At}
use Rattle.semantics_values.specs.States.{State}
use Rattle.semantics_values.specs.Values as v
use Rattle.semantics_values.specs.Values.{Val, Vals, cell_at, vals}
use Rattle.fixpoint_theory.specs.Elements.{Elements}
use Rattle.fixpoint_cases.specs.Pieces.{Piece, PieceLaws}
use Rattle.fixpoint_cases.specs.Same.{HaveSamePieces}

-- ---- the number of a cell of a state

-- of a word its number, of a map that at the key; else 0
abbrev pub value_number : KeyAt → Val → ℕ
value_number Whole (v.word u n) = n
value_number (At k) (v.map m rest cells) = (cell_at rest cells k).v
value_number _ _ = 0

-- of value number n, from 0
abbrev pub values_number : ℕ → KeyAt → Vals → ℕ
values_number n key v.no_val = 0
values_number zero key (v.val_then p ps) = value_number key p
values_number (suc n) key (v.val_then p ps) = values_number n key ps

-- Field 0 is the counter.
abbrev pub field_number : ℕ → KeyAt → State → ℕ
field_number zero key s = s.pc
field_number (suc n) key s = values_number n key (vals s.parts)

-- The number of a cell. All words have at most 64 bits.
abbrev pub number_of : ℕ × KeyAt → State → ℕ
number_of cell s = min (field_number cell.0 cell.1 s) (2 ^ 64 - 1)

-- ---- what is asked of pieces

-- What holds of the pieces of a domain's elements: in each state of an element, those between numbers around that of the cell hold of it; and
-- they tell no two elements apart that are the same.
pub record AreCut {E : Type 0} (D : Elements E State) (piece : Piece (ℕ × KeyAt) E) : Type 0 where
  pub laws : PieceLaws D number_of piece
  pub alike : HaveSamePieces D piece
