-- Laws of tables, groups and ranks.
use Rattle.std.specs.Prelude.{◌≡◌, ◌↔◌, ◌<◌, ◌≤◌, ℕ, Bool, true, List, length}
use Rattle.support_reachability.specs.Graph.{Reaches, SameGroup, IsLeastOfGroup}
use Rattle.support_reachability.specs.Table.{IsTableOf, same_group, group, rank}

-- What a table of a graph says of groups.
pub record GroupsAreTold (graph : List (List ℕ)) (t : List (List Bool)) : Type 0 where
  pub same : (a b : ℕ) → a < length graph → b < length graph → (same_group t a b ≡ true) ↔ SameGroup graph a b
  pub least : (a : ℕ) → a < length graph → IsLeastOfGroup graph a (group t a)

-- The rank falls along each path that doesn't come back, and is the same all over a group.
pub record RanksFall (graph : List (List ℕ)) (t : List (List Bool)) : Type 0 where
  pub falls : (a b : ℕ) → a < length graph → b < length graph → Reaches graph a b → ¬ SameGroup graph a b → rank t b < rank t a
  pub stays : (a b : ℕ) → a < length graph → b < length graph → SameGroup graph a b → rank t a ≡ rank t b
  pub bound : (a : ℕ) → a < length graph → rank t a ≤ length graph

abbrev pub TablesTellGroups : Type 0
TablesTellGroups = (graph : List (List ℕ)) (t : List (List Bool)) → IsTableOf graph t → GroupsAreTold graph t

abbrev pub TablesRank : Type 0
TablesRank = (graph : List (List ℕ)) (t : List (List Bool)) → IsTableOf graph t → RanksFall graph t

-- Each graph has a table.
abbrev pub GraphsHaveTables : Type 0
GraphsHaveTables = (graph : List (List ℕ)) → (t : List (List Bool)) × IsTableOf graph t
