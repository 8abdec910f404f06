-- Which stamps values list.
use Rattle.std.proofs.Common.{ℕ, List, [], ◌∷◌, ◌++◌, ◌⊎◌, inl, inr}
use Rattle.base_trait.specs.Algebra.{Algebra}
use Rattle.base_trait.specs.Lists.{AreAmong, Each, IsAmong}
use Rattle.base_trait.specs.declared.uses.Stamp.{Stamp}
use Rattle.base_trait.proofs.Lists.{among_either, among_left, among_right, are_among_at, are_among_from}
use Rattle.abstract_map_laws.specs.declared.cell.AbstractCell.{AbstractCell}
use Rattle.abstract_map_laws.specs.Cells.{ListsOnly}
use Rattle.abstract_value_laws.specs.Abs.{Abs, Cases, Parts, flag, word, made, map, no_case, absent, present, no_part, part}
use Rattle.abstract_value_laws.specs.Shapes.{CasesList, ListsStamps, PartsList}
use Rattle.domain_laws.specs.Cells.{case_stamps, cell_stamps, part_stamps, value_stamps}

module _ (xs ys stamps : List Stamp) where
  pub front : AreAmong (xs ++ ys) stamps → AreAmong xs stamps
  front h = are_among_from xs stamps (λ s m. are_among_at (xs ++ ys) stamps s h (among_left s xs ys m))

  pub rear : AreAmong (xs ++ ys) stamps → AreAmong ys stamps
  rear h = are_among_from ys stamps (λ s m. are_among_at (xs ++ ys) stamps s h (among_right s xs ys m))

  pub both_among : AreAmong xs stamps → AreAmong ys stamps → AreAmong (xs ++ ys) stamps
  both_among h g = are_among_from (xs ++ ys) stamps (λ s m. either s (among_either s xs ys m))
    where
      either : (s : Stamp) → IsAmong s xs ⊎ IsAmong s ys → IsAmong s stamps
      either s (inl m) = are_among_at xs stamps s h m
      either s (inr m) = are_among_at ys stamps s g m

pub all_left : (xs ys : List Stamp) → AreAmong xs (xs ++ ys)
all_left xs ys = are_among_from xs (xs ++ ys) (λ s m. among_left s xs ys m)

pub all_right : (xs ys : List Stamp) → AreAmong ys (xs ++ ys)
all_right xs ys = are_among_from ys (xs ++ ys) (λ s m. among_right s xs ys m)

pub all_among : (xs : List Stamp) → AreAmong xs xs
all_among xs = are_among_from xs xs (λ s m. m)

-- a list of stamps has those of a value exactly where the value lists only these
module _ {W N C : Type 0} (B : Algebra W N C) (stamps : List Stamp) where
  cells_to : (es : List (ℕ × AbstractCell W N)) → AreAmong (cell_stamps B es) stamps → Each (λ e. ListsOnly B stamps e.1) es
  cells_to [] h = tt
  cells_to (e ∷ es) h = (front (B.notes.listed e.1.note) (cell_stamps B es) stamps h, cells_to es (rear (B.notes.listed e.1.note) (cell_stamps B es) stamps h))

  cells_from : (es : List (ℕ × AbstractCell W N)) → Each (λ e. ListsOnly B stamps e.1) es → AreAmong (cell_stamps B es) stamps
  cells_from [] h = tt
  cells_from (e ∷ es) h = both_among (B.notes.listed e.1.note) (cell_stamps B es) stamps h.0 (cells_from es h.1)

  mutual
    value_to : (x : Abs W N) → AreAmong (value_stamps B x) stamps → ListsStamps B stamps x
    value_to (flag t) h = tt
    value_to (word w x) h = tt
    value_to (made ty cs) h = cases_to cs h
    value_to (map m x) h = (front (B.notes.listed x.rest.note) (cell_stamps B x.cells) stamps h, cells_to x.cells (rear (B.notes.listed x.rest.note) (cell_stamps B x.cells) stamps h))

    cases_to : (cs : Cases W N) → AreAmong (case_stamps B cs) stamps → CasesList B stamps cs
    cases_to no_case h = tt
    cases_to (absent cs) h = cases_to cs h
    cases_to (present xs cs) h = (parts_to xs (front (part_stamps B xs) (case_stamps B cs) stamps h), cases_to cs (rear (part_stamps B xs) (case_stamps B cs) stamps h))

    pub parts_to : (xs : Parts W N) → AreAmong (part_stamps B xs) stamps → PartsList B stamps xs
    parts_to no_part h = tt
    parts_to (part x xs) h = (value_to x (front (value_stamps B x) (part_stamps B xs) stamps h), parts_to xs (rear (value_stamps B x) (part_stamps B xs) stamps h))

  mutual
    value_from : (x : Abs W N) → ListsStamps B stamps x → AreAmong (value_stamps B x) stamps
    value_from (flag t) h = tt
    value_from (word w x) h = tt
    value_from (made ty cs) h = cases_of cs h
    value_from (map m x) h = both_among (B.notes.listed x.rest.note) (cell_stamps B x.cells) stamps h.0 (cells_from x.cells h.1)

    cases_of : (cs : Cases W N) → CasesList B stamps cs → AreAmong (case_stamps B cs) stamps
    cases_of no_case h = tt
    cases_of (absent cs) h = cases_of cs h
    cases_of (present xs cs) h = both_among (part_stamps B xs) (case_stamps B cs) stamps (parts_from xs h.0) (cases_of cs h.1)

    pub parts_from : (xs : Parts W N) → PartsList B stamps xs → AreAmong (part_stamps B xs) stamps
    parts_from no_part h = tt
    parts_from (part x xs) h = both_among (value_stamps B x) (part_stamps B xs) stamps (value_from x h.0) (parts_from xs h.1)
