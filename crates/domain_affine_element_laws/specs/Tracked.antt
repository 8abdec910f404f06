-- Which cells of a state are tracked, and the numbers that they have.
use Rattle.std.specs.Prelude.{ℕ, ◌+◌, ◌-◌, ◌&&◌, ◌==◌, nat_le, if◌then◌else◌, List, [], ◌∷◌, ◌++◌, length, map, Option, Some, None, slice_get}
use Rattle.std.specs.List.{range_with_len}
use Rattle.spec_ir.specs.declared.ty.Ty.{Ty}
use Rattle.spec_ir.specs.declared.ty.Ty.TheVariants.{Word, Map as MapOf}
use Rattle.spec_ir.specs.declared.declared.MapType.{MapType}
use Rattle.spec_ir.specs.Environment.{Environment}
use Rattle.semantics_values.specs.declared.entry.KeyAt.{KeyAt}
use Rattle.semantics_values.specs.declared.entry.KeyAt.TheVariants.{Whole, At}
use Rattle.semantics_values.specs.States.{State}
use Rattle.semantics_values.specs.Types.{key_count}
use Rattle.semantics_values.specs.Values.{Val, word, map as map_of, cell_at}

-- the cells of a field that can be tracked: a word of 32 bits; all keys of a map to such words, where they are at most 64
abbrev pub word_cells : ℕ → List KeyAt
word_cells w = if w == 32 then Whole ∷ [] else []

abbrev pub map_cells : ℕ → ℕ → List KeyAt
map_cells keys w = if w == 32 && nat_le keys 64 then map At (range_with_len 0 keys) else []

module _ (env : Environment) where
  abbrev pub cells_of_map : Option MapType → List KeyAt
  cells_of_map None = []
  cells_of_map (Some d) = map_cells (key_count env d.key) d.width

  abbrev pub cells_of : Ty → List KeyAt
  cells_of (Word w) = word_cells w
  cells_of (MapOf m) = cells_of_map (slice_get env.maps m)
  cells_of _ = []

-- these cells, and those of the fields from number n on; a field that would make more than 64 in all is left out
abbrev pub tracked_with : List (ℕ × KeyAt) → ℕ → List (List KeyAt) → List (ℕ × KeyAt)
tracked_with cells n [] = cells
tracked_with cells n (keys ∷ fields) =
    if nat_le (length cells + length keys) 64 then tracked_with (cells ++ map (λ key. (n, key)) keys) (n + 1) fields else tracked_with cells (n + 1) fields

-- the cells of the fields behind the counter, which is number 0
abbrev pub tracked_of : List (List KeyAt) → List (ℕ × KeyAt)
tracked_of fields = tracked_with [] 1 fields

-- ---- the numbers of cells
abbrev pub number_of : Val → KeyAt → ℕ
number_of (word w v) Whole = v
number_of (map_of m rest cells) (At k) = (cell_at rest cells k).v
number_of _ _ = 0

abbrev pub number_in : Option Val → KeyAt → ℕ
number_in None key = 0
number_in (Some v) key = number_of v key

abbrev pub number_at : State → ℕ × KeyAt → ℕ
number_at s cell = number_in (slice_get s.parts (cell.0 - 1)) cell.1

abbrev pub valuation_of : List (ℕ × KeyAt) → State → List ℕ
valuation_of cells s = map (number_at s) cells
