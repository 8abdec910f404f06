-- The stamps that values list.
use Rattle.std.proofs.Common.{List, [], ◌∷◌, ◌++◌, ℕ}
use Rattle.base_trait.specs.Algebra.{Algebra}
use Rattle.base_trait.specs.Lists.{Each, IsAmong}
use Rattle.base_trait.specs.declared.uses.Stamp.{Stamp}
use Rattle.base_trait.proofs.Lists.{among_left, among_right, are_among_from}
use Rattle.abstract_map_laws.specs.declared.cell.AbstractCell.{AbstractCell}
use Rattle.abstract_map_laws.specs.Cells.{ListsOnly}
use Rattle.abstract_value_laws.specs.Abs.{Abs, Cases, Parts, flag, word, made, map, no_case, absent, present, no_part, part}
use Rattle.abstract_value_laws.specs.Shapes.{CasesList, ListsStamps, PartsList}
use Rattle.abstract_semantics.specs.OwnStamps.{case_stamps, cell_stamps, part_stamps, value_stamps}

module _ {W N C : Type 0} (B : Algebra W N C) where
  module _ (stamps : List Stamp) where
    abbrev pub IsWithin : List Stamp → Type 0
    IsWithin own = (s : Stamp) → IsAmong s own → IsAmong s stamps

    cells_list : (es : List (ℕ × AbstractCell W N)) → IsWithin (cell_stamps B es) → Each (λ e. ListsOnly B stamps e.1) es
    cells_list [] h = tt
    cells_list (e ∷ es) h = (
      are_among_from (B.notes.listed e.1.note) stamps (λ s k. h s (among_left s (B.notes.listed e.1.note) (cell_stamps B es) k)),
      cells_list es (λ s k. h s (among_right s (B.notes.listed e.1.note) (cell_stamps B es) k)),
    )

    mutual
      value_lists : (x : Abs W N) → IsWithin (value_stamps B x) → ListsStamps B stamps x
      value_lists (flag t) h = tt
      value_lists (word w x) h = tt
      value_lists (made ty cs) h = cases_list cs h
      value_lists (map m x) h = (
        are_among_from (B.notes.listed x.rest.note) stamps (λ s k. h s (among_left s (B.notes.listed x.rest.note) (cell_stamps B x.cells) k)),
        cells_list x.cells (λ s k. h s (among_right s (B.notes.listed x.rest.note) (cell_stamps B x.cells) k)),
      )

      cases_list : (cs : Cases W N) → IsWithin (case_stamps B cs) → CasesList B stamps cs
      cases_list no_case h = tt
      cases_list (absent cs) h = cases_list cs h
      cases_list (present xs cs) h = (own_list xs (λ s k. h s (among_left s (part_stamps B xs) (case_stamps B cs) k)), cases_list cs (λ s k. h s (among_right s (part_stamps B xs) (case_stamps B cs) k)))

      -- values list their own stamps
      pub own_list : (xs : Parts W N) → IsWithin (part_stamps B xs) → PartsList B stamps xs
      own_list no_part h = tt
      own_list (part x xs) h = (value_lists x (λ s k. h s (among_left s (value_stamps B x) (part_stamps B xs) k)), own_list xs (λ s k. h s (among_right s (value_stamps B x) (part_stamps B xs) k)))
