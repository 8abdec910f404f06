-- The text of a slice.
use Rattle.std.specs.Prelude.{ℕ, Bool, List, [], ◌∷◌, ◌++◌, Option, Some, None, codes, slice_get, if◌then◌else◌}
use Rattle.spec_ir.specs.Specification.{Spec}
use Rattle.semantics_values.specs.declared.entry.KeyAt.{KeyAt}
use Rattle.semantics_values.specs.declared.entry.KeyAt.TheVariants.{Rest, At}
use Rattle.state_cell_text.specs.Digits.{hex_digits}
use Rattle.state_cell_text.specs.Keys.{cell_text}
use Rattle.state_cell_text.specs.Places.{Field, state_fields}
use Rattle.text_slices.specs.declared.slice_cell.SliceCell.{SliceCell}

-- a key, or any
abbrev pub part_asked : Option ℕ → KeyAt
part_asked None = Rest
part_asked (Some key) = At key

-- eight hex digits
unfoldable pub address_text : ℕ → List ℕ
address_text at = hex_digits 8 at

abbrev pub address_line : ℕ → List ℕ
address_line at = address_text at ++ codes "\n"

abbrev pub address_lines : List ℕ → List ℕ
address_lines [] = []
address_lines (at ∷ addresses) = address_line at ++ address_lines addresses

abbrev pub entry_line : Bool → List ℕ
entry_line entry = if entry then codes "entry\n" else []

module _ (spec : Spec) where
  abbrev pub of_field : Option Field → Option ℕ → List ℕ
  of_field None key = []
  of_field (Some f) key = cell_text spec f (part_asked key)

  -- the cell that is asked for, as states are printed: NAME[KEY] or NAME[*]
  abbrev pub asked_text : SliceCell → List ℕ
  asked_text asked = of_field (slice_get (state_fields spec) asked.field) asked.key

  abbrev pub head_line : ℕ → SliceCell → List ℕ
  head_line at asked = codes "slice " ++ (address_text at ++ (codes " " ++ (asked_text asked ++ codes "\n")))

  -- The address and the cell that were asked for, the entry where some cells come from it, and the addresses from which cells come.
  abbrev pub slice_text : ℕ → SliceCell → Bool → List ℕ → List ℕ
  slice_text at asked entry addresses = head_line at asked ++ (entry_line entry ++ address_lines addresses)
