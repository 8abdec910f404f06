-- Paths and groups in a graph, which is given by the list of nodes that each node leads to.
use Rattle.std.specs.Prelude.{◌≡◌, ◌⊎◌, ◌≤◌, ℕ, List, [], slice_index_or}
use Rattle.std.specs.List.{Contains}

module _ (graph : List (List ℕ)) where
  -- an edge leads from one node to another
  abbrev pub IsEdge : ℕ → ℕ → Type 0
  IsEdge a b = Contains (slice_index_or graph a []) b

  -- A path of one or more edges leads from one node to another.
  pub data Reaches : ℕ → ℕ → Type 0 where
    edge : {a b : ℕ} → IsEdge a b → Reaches a b
    onward : {a b c : ℕ} → IsEdge a b → Reaches b c → Reaches a c

  -- Two nodes are of one group where each is the other, or each reaches the other.
  abbrev pub SameGroup : ℕ → ℕ → Type 0
  SameGroup a b = (a ≡ b) ⊎ (Reaches a b × Reaches b a)

  -- The least node of a node's group.
  pub record IsLeastOfGroup (a least : ℕ) : Type 0 where
    pub same : SameGroup a least
    pub below : (b : ℕ) → SameGroup a b → least ≤ b
