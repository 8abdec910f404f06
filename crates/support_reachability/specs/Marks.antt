-- Steps of a depth-first search: which nodes are marked, and which are still to be left.
use Rattle.std.specs.Prelude.{◌≡◌, ◌↔◌, ◌⊎◌, ◌<◌, ◌+◌, ℕ, Bool, true, false, List, [], ◌∷◌, length, slice_index_or, if◌then◌else◌}
use Rattle.std.specs.List.{Contains}
use Rattle.support_reachability.specs.Graph.{Reaches}

abbrev pub IsMarked : List Bool → ℕ → Type 0
IsMarked marks node = slice_index_or marks node false ≡ true

-- how many are not marked
abbrev pub unmarked : List Bool → ℕ
unmarked [] = 0
unmarked (b ∷ bs) = if b then unmarked bs else unmarked bs + 1

-- node is one of the first n of a list
abbrev pub IsAmong : List ℕ → ℕ → ℕ → Type 0
IsAmong nodes n node = (k : ℕ) × (k < n) × (slice_index_or nodes k node ≡ node)

-- The first n targets have been marked, and those that were not marked before are on the stack.
pub record AreMarked (targets : List ℕ) (n : ℕ) (old new : List Bool) (before after : List ℕ) : Type 0 where
  pub width : length new ≡ length old
  pub kept : (node : ℕ) → IsMarked old node → IsMarked new node
  pub marked : (node : ℕ) → IsAmong targets n node → node < length old → IsMarked new node
  pub only : (node : ℕ) → IsMarked new node → IsMarked old node ⊎ (IsAmong targets n node × Contains after node)
  pub stack_kept : (node : ℕ) → Contains before node → Contains after node
  pub stack_only : (node : ℕ) → Contains after node → Contains before node ⊎ IsMarked new node
  pub weight : unmarked new + length after ≡ unmarked old + length before

-- The nodes that a node reaches.
pub record AreReached (graph : List (List ℕ)) (from : ℕ) (marks : List Bool) : Type 0 where
  pub width : length marks ≡ length graph
  pub exactly : (node : ℕ) → node < length graph → IsMarked marks node ↔ Reaches graph from node
