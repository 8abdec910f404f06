-- Tables that say which nodes each node reaches.
use Rattle.std.specs.Prelude.{◌≡◌, ◌↔◌, ◌<◌, ◌+◌, ℕ, zero, suc, Bool, true, false, ◌&&◌, ◌||◌, ◌==◌, List, [], ◌∷◌, length, map, slice_index_or, if◌then◌else◌}
use Rattle.support_reachability.specs.declared.table.Reachability.{Reachability}
use Rattle.support_reachability.specs.Graph.{Reaches}

-- a table as lists
abbrev pub table : Reachability → List (List Bool)
table r = map (λ row. row.items) r.rows.items

-- what a table says of two nodes
abbrev pub says : List (List Bool) → ℕ → ℕ → Bool
says t a b = slice_index_or (slice_index_or t a []) b false

-- A table of a graph has a row for each node, and says of two nodes whether the first reaches the second.
pub record IsTableOf (graph : List (List ℕ)) (t : List (List Bool)) : Type 0 where
  pub height : length t ≡ length graph
  pub width : (a : ℕ) → a < length graph → length (slice_index_or t a []) ≡ length graph
  pub entries : (a b : ℕ) → b < length graph → (says t a b ≡ true) ↔ Reaches graph a b

-- whether two nodes are of one group
abbrev pub same_group : List (List Bool) → ℕ → ℕ → Bool
same_group t a b = a == b || (says t a b && says t b a)

-- the least of n nodes from b on that is of the group of a, and else a
abbrev pub least_from : List (List Bool) → ℕ → ℕ → ℕ → ℕ
least_from t a b zero = a
least_from t a b (suc n) = if same_group t a b then b else least_from t a (b + 1) n

-- the least node of a node's group
abbrev pub group : List (List Bool) → ℕ → ℕ
group t a = least_from t a 0 (length t)

-- how many are true
abbrev pub count : List Bool → ℕ
count [] = 0
count (b ∷ bs) = if b then count bs + 1 else count bs

-- The rank of a node: how many nodes it is or reaches.
abbrev pub rank : List (List Bool) → ℕ → ℕ
rank t a = count (slice_index_or t a []) + (if says t a a then 0 else 1)
