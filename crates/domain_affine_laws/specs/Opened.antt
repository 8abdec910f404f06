-- The values of the fields of a state where an element stands.
use Rattle.std.specs.Prelude.{ℕ, suc, Bool, ◌&&◌, ◌==◌, List, [], ◌∷◌, map as map_of, Option, Some, None, unwrap_or, if◌then◌else◌}
use Rattle.std.specs.List.{range_with_len}
use Rattle.abstract_map_laws.specs.declared.cell.AbstractCell.{AbstractCell}
use Rattle.semantics_values.specs.declared.entry.KeyAt.{KeyAt}
use Rattle.semantics_values.specs.declared.entry.KeyAt.TheVariants.{Whole, At}
use Rattle.semantics.specs.Entries.{is_key}
use Rattle.abstract_value_laws.specs.Abs.{Abs, Parts, no_part, part, word, map}
use Rattle.domain_laws.specs.declared.field.Field.{Field}
use Rattle.domain_laws.specs.declared.field.Field.TheVariants as field
use Rattle.domain_affine_base.specs.declared.word.Word.{Word}
use Rattle.domain_affine_base.specs.declared.word.Word.TheVariants.{Any}
use Rattle.domain_affine_element_laws.specs.Opened.{opened_cell}
use Rattle.domain_affine_element_laws.specs.Tracked.{map_cells}

-- the words of the k tracked cells, in their order
abbrev pub opened_words : ℕ → List (List ℕ) → List Word
opened_words k rows = map_of (opened_cell k rows) (range_with_len 0 k)

-- whether the cell is that of the key in field number n
abbrev pub is_cell : ℕ × KeyAt → ℕ → KeyAt → Bool
is_cell cell n key = cell.0 == n && is_key cell.1 key

-- the word of a cell among tracked ones
abbrev pub tracked_word : List (ℕ × KeyAt) → List Word → ℕ → KeyAt → Option Word
tracked_word (cell ∷ cells) (x ∷ words) n key = if is_cell cell n key then Some x else tracked_word cells words n key
tracked_word _ _ n key = None

-- a cell of a map; affine forms have no notes
abbrev pub noted : Word → AbstractCell Word (Unit {0})
noted x = record { word = x; note = tt }

-- in front of more cells, where the key is one and is tracked
abbrev pub listed_cell : KeyAt → Option Word → List (ℕ × AbstractCell Word (Unit {0})) → List (ℕ × AbstractCell Word (Unit {0}))
listed_cell (At k) (Some x) more = (k, noted x) ∷ more
listed_cell _ _ more = more

-- of tracked cells with their words
module _ (cells : List (ℕ × KeyAt)) (words : List Word) where
  -- the cells that a map lists: those that are tracked
  abbrev pub opened_cells : ℕ → List KeyAt → List (ℕ × AbstractCell Word (Unit {0}))
  opened_cells n [] = []
  opened_cells n (key ∷ keys) = listed_cell key (tracked_word cells words n key) (opened_cells n keys)

  -- The value of field number n. What is not tracked is any, and so is the rest of a map.
  abbrev pub opened_value : ℕ → Field → Abs Word (Unit {0})
  opened_value n (field.Word w) = word w (unwrap_or (tracked_word cells words n Whole) Any)
  opened_value n (field.Map m keys width default) = map m (record { width = width; rest = noted Any; cells = opened_cells n (map_cells keys width) })

  -- fields that are numbered from n on
  abbrev pub opened_values : ℕ → List Field → Parts Word (Unit {0})
  opened_values n [] = no_part
  opened_values n (f ∷ fields) = part (opened_value n f) (opened_values (suc n) fields)
