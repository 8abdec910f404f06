-- The stamps that values list.
use Rattle.std.specs.Prelude.{ℕ, List, [], ◌∷◌, ◌++◌}
use Rattle.base_trait.specs.Algebra.{Algebra}
use Rattle.base_trait.specs.declared.uses.Stamp.{Stamp}
use Rattle.abstract_map_laws.specs.declared.cell.AbstractCell.{AbstractCell}
use Rattle.abstract_value_laws.specs.Abs.{Abs, Cases, Parts, flag, word, made, map, no_case, absent, present, no_part, part}

module _ {W N C : Type 0} (B : Algebra W N C) where
  abbrev pub cell_stamps : List (ℕ × AbstractCell W N) → List Stamp
  cell_stamps [] = []
  cell_stamps (e ∷ es) = B.notes.listed e.1.note ++ cell_stamps es

  abbrev mutual
    pub value_stamps : Abs W N → List Stamp
    value_stamps (flag t) = []
    value_stamps (word w x) = []
    value_stamps (made ty cs) = case_stamps cs
    value_stamps (map m x) = B.notes.listed x.rest.note ++ cell_stamps x.cells

    pub case_stamps : Cases W N → List Stamp
    case_stamps no_case = []
    case_stamps (absent cs) = case_stamps cs
    case_stamps (present xs cs) = part_stamps xs ++ case_stamps cs

    pub part_stamps : Parts W N → List Stamp
    part_stamps no_part = []
    part_stamps (part x xs) = value_stamps x ++ part_stamps xs
