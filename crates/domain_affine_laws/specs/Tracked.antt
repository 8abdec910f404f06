-- The cells of fields that are tracked.
use Rattle.std.specs.Prelude.{ℕ, List, map}
use Rattle.semantics_values.specs.declared.entry.KeyAt.{KeyAt}
use Rattle.domain_laws.specs.declared.field.Field.{Field}
use Rattle.domain_laws.specs.declared.field.Field.TheVariants.{Word, Map}
use Rattle.domain_laws.specs.States.{StateType}
use Rattle.domain_affine_element_laws.specs.Tracked.{map_cells, tracked_of, word_cells}

-- the cells of a field that can be tracked
abbrev pub field_cells : Field → List KeyAt
field_cells (Word w) = word_cells w
field_cells (Map m keys width default) = map_cells keys width

-- those of these fields that are
abbrev pub cells_in : List Field → List (ℕ × KeyAt)
cells_in fields = tracked_of (map field_cells fields)

abbrev pub tracked_cells : StateType → List (ℕ × KeyAt)
tracked_cells t = cells_in t.fields
