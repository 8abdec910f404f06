-- An abstract value as plain data, over words W and notes N.
use Rattle.std.specs.Prelude.{ℕ, List, [], ◌∷◌, Option, Some, None}
use Rattle.base_trait.specs.declared.tri.Tri.{Tri}
use Rattle.abstract_map_laws.specs.Maps.{Map}

mutual
  pub data Abs (W N : Type 0) : Type 0 where
    flag : Tri → Abs W N
    -- width and word
    word : ℕ → W → Abs W N
    -- datatype, and its constructors in their order
    made : ℕ → Cases W N → Abs W N
    -- map type and map
    map : ℕ → Map W N → Abs W N

  -- the fields of each constructor, or none where it is missing
  pub data Cases (W N : Type 0) : Type 0 where
    no_case : Cases W N
    absent : Cases W N → Cases W N
    present : Parts W N → Cases W N → Cases W N

  pub data Parts (W N : Type 0) : Type 0 where
    no_part : Parts W N
    part : Abs W N → Parts W N → Parts W N

module _ {W N : Type 0} where
  -- a list in front of more
  abbrev pub parts_onto : List (Abs W N) → Parts W N → Parts W N
  parts_onto [] rest = rest
  parts_onto (x ∷ xs) rest = part x (parts_onto xs rest)

  abbrev pub parts : List (Abs W N) → Parts W N
  parts xs = parts_onto xs no_part

  abbrev pub case_onto : Option (Parts W N) → Cases W N → Cases W N
  case_onto None rest = absent rest
  case_onto (Some xs) rest = present xs rest

  abbrev pub cases_onto : List (Option (Parts W N)) → Cases W N → Cases W N
  cases_onto [] rest = rest
  cases_onto (c ∷ cs) rest = case_onto c (cases_onto cs rest)

  abbrev pub cases : List (Option (Parts W N)) → Cases W N
  cases cs = cases_onto cs no_case
