-- Walks over trees, part by part.
use Rattle.std.specs.Prelude.{◌≡◌, ℕ, ◌+◌, ◌≤◌, List, [], ◌∷◌, ◌++◌, length}
use Rattle.abstract_cell_tree.specs.Entries.{Between, listed_at}
use Rattle.abstract_cell_tree.specs.declared.walk.Parts.{Parts}
use Rattle.abstract_cell_tree.specs.declared.walk.Parts.TheVariants as part
use Rattle.abstract_cell_tree.specs.declared.walk.Sides.{Sides}

module _ {V : Type 0} where
  -- the entries of both
  abbrev pub sides_entries : Sides V → List (ℕ × V)
  sides_entries s = s.left.now ++ s.right.now

  -- the entries are those of two sides with some, apart at the split, and within the bounds
  pub record AreSidesOf (es : List (ℕ × V)) (s : Sides V) : Type 0 where
    pub is : es ≡ sides_entries s
    pub below : Between s.low s.split s.left.now
    pub above : Between s.split (s.high + 1) s.right.now
    pub some_left : 1 ≤ length s.left.now
    pub some_right : 1 ≤ length s.right.now

  -- the entries are those of the parts
  abbrev pub ArePartsOf : List (ℕ × V) → Parts V → Type 0
  ArePartsOf es part.Empty = es ≡ []
  ArePartsOf es (part.One k x) = es ≡ (k, x.now) ∷ []
  ArePartsOf es (part.Two s) = AreSidesOf es s

  -- the same is listed at each key within bounds
  abbrev pub AlikeWithin : ℕ → ℕ → List (ℕ × V) → List (ℕ × V) → Type 0
  AlikeWithin low high xs ys = (k : ℕ) → low ≤ k → k ≤ high → listed_at k xs ≡ listed_at k ys
