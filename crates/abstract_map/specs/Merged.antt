-- Cells merged, and cells of another map put beside them.
use Rattle.std.specs.Prelude.{ℕ, List, [], ◌∷◌, is_some, if◌then◌else◌}
use Rattle.base_trait.specs.Algebra.{Algebra}
use Rattle.abstract_cell_tree.specs.Entries.{listed_at, put}
use Rattle.abstract_map_laws.specs.declared.cell.AbstractCell.{AbstractCell}
use Rattle.abstract_map_laws.specs.Cells.{join_cells, widen_cells}
use Rattle.abstract_map.specs.declared.merge.Merge.{Merge}
use Rattle.abstract_map.specs.declared.merge.Merge.TheVariants as how

abbrev pub merge_cells : {W N C : Type 0} → Algebra W N C → C → ℕ → Merge → AbstractCell W N → AbstractCell W N → AbstractCell W N
merge_cells B c w how.Join old new = join_cells B c w old new
merge_cells B c w how.Widen old new = widen_cells B c w old new

-- cells, with a value made of each entry whose key is not listed in es
abbrev pub with_new : {A : Type 0} → List (ℕ × A) → (A → A) → List (ℕ × A) → List (ℕ × A) → List (ℕ × A)
with_new es make [] out = out
with_new es make (d ∷ ds) out = with_new es make ds (if is_some (listed_at d.0 es) then out else put d.0 (make d.1) out)
