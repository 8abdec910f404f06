-- Tests that tell whether the notes of values list no stamps but these.
use Rattle.std.specs.Prelude.{List, Bool, true, ◌&&◌}
use Rattle.std.specs.List.{list_all}
use Rattle.base_trait.specs.Algebra.{Algebra}
use Rattle.base_trait.specs.Stamps.{is_listed}
use Rattle.base_trait.specs.declared.uses.Stamp.{Stamp}
use Rattle.abstract_map_laws.specs.declared.cell.AbstractCell.{AbstractCell}
use Rattle.abstract_value_laws.specs.Abs.{Abs, Cases, Parts, flag, word, made, map, no_case, absent, present, no_part, part}

module _ {W N C : Type 0} (B : Algebra W N C) (stamps : List Stamp) where
  abbrev pub cell_lists : AbstractCell W N → Bool
  cell_lists x = list_all (is_listed stamps) (B.notes.listed x.note)

  abbrev mutual
    pub value_lists : Abs W N → Bool
    value_lists (flag t) = true
    value_lists (word w x) = true
    value_lists (made ty cs) = cases_list cs
    value_lists (map m x) = cell_lists x.rest && list_all (λ e. cell_lists e.1) x.cells

    pub cases_list : Cases W N → Bool
    cases_list no_case = true
    cases_list (absent cs) = cases_list cs
    cases_list (present xs cs) = parts_list xs && cases_list cs

    pub parts_list : Parts W N → Bool
    parts_list no_part = true
    parts_list (part x xs) = value_lists x && parts_list xs
