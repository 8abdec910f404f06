-- An entry put at its key's place, where there is one.
use Rattle.std.specs.Prelude.{ℕ, List, Option, Some, None}
use Rattle.abstract_cell_tree.specs.Entries.{put}

abbrev pub placed : {A : Type 0} → ℕ → Option A → List (ℕ × A) → List (ℕ × A)
placed k None es = es
placed k (Some x) es = put k x es
