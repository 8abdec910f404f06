-- What a node of the tree stands for, and what holds of it.
use Rattle.std.specs.Prelude.{◌≡◌, ℕ, ◌+◌, ◌≤◌, List, [], ◌∷◌, ◌++◌, length}
use Rattle.abstract_cell_tree.specs.Entries.{Between}
use Rattle.abstract_cell_tree.specs.declared.branch.Node.{Node}
use Rattle.abstract_cell_tree.specs.declared.branch.Node.TheVariants.{Empty, Leaf, Fork}

-- both sides have entries. Those of the left have keys below the split, the others no lesser ones, all within low and high.
pub record Parted (A : Type 0) (low split high count : ℕ) (left right : List (ℕ × A)) : Type 0 where
  pub below : Between low split left
  pub above : Between split (high + 1) right
  pub some_left : 1 ≤ length left
  pub some_right : 1 ≤ length right
  pub total : count ≡ length left + length right

-- the entries, ascending
abbrev pub entries : {V : Type 0} → Node V → List (ℕ × V)
entries Empty = []
entries (Leaf k v) = (k, v.value) ∷ []
entries (Fork f) = f.value.left ++ f.value.right

abbrev pub IsSound : {V : Type 0} → Node V → Type 0
IsSound Empty = Unit {0}
IsSound (Leaf k v) = Unit {0}
IsSound (Fork f) = Parted _ f.value.low f.value.split f.value.high f.value.count f.value.left f.value.right
