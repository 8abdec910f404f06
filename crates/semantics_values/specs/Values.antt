-- A value as plain data.
use Rattle.std.specs.Prelude.{ℕ, Bool, List, [], ◌∷◌, nat_lt, ◌==◌, if◌then◌else◌}
use Rattle.semantics_values.specs.declared.value.Cell.{Cell}

mutual
  pub data Val : Type 0 where
    flag : Bool → Val
    -- width and number
    word : ℕ → ℕ → Val
    -- datatype, constructor, its fields
    made : ℕ → ℕ → Vals → Val
    -- map type, the cell of every key that is not listed, and the listed keys with their cells
    map : ℕ → Cell → List (ℕ × Cell) → Val

  pub data Vals : Type 0 where
    no_val : Vals
    val_then : Val → Vals → Vals

-- a list in front of more
abbrev pub vals_onto : List Val → Vals → Vals
vals_onto [] rest = rest
vals_onto (v ∷ vs) rest = val_then v (vals_onto vs rest)

abbrev pub vals : List Val → Vals
vals vs = vals_onto vs no_val

abbrev pub val_list : Vals → List Val
val_list no_val = []
val_list (val_then v vs) = v ∷ val_list vs

-- ---- maps: the keys that are listed ascend

-- the cell at a key
abbrev pub cell_at : Cell → List (ℕ × Cell) → ℕ → Cell
cell_at rest [] k = rest
cell_at rest (c ∷ cells) k = if c.0 == k then c.1 else cell_at rest cells k

-- the cells with another at a key
abbrev pub put_cell : ℕ → Cell → List (ℕ × Cell) → List (ℕ × Cell)
put_cell k cell [] = (k, cell) ∷ []
put_cell k cell (c ∷ cells) = if c.0 == k then (k, cell) ∷ cells else if nat_lt k c.0 then (k, cell) ∷ c ∷ cells else c ∷ put_cell k cell cells
