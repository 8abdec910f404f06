-- Notes that are counted add to a rank.
use Rattle.std.proofs.Common.{ℕ, ◌≤◌, List, [], ◌∷◌, length, arith, refl}
use Rattle.std.specs.List.{sum_by}
use Rattle.std.proofs.lemmas.List.Sums.{sum_by-cons}
use Rattle.base_trait.specs.Algebra.{Algebra}
use Rattle.base_trait.specs.declared.uses.Stamp.{Stamp}
use Rattle.abstract_map_laws.specs.declared.cell.AbstractCell.{AbstractCell}
use Rattle.abstract_map_laws.specs.Cells.{rank_cell}
use Rattle.abstract_value_laws.specs.Abs.{Abs, Cases, Parts, flag, word, made, map, absent, present, part}
use Rattle.abstract_value_laws.specs.Shapes.{CaseShapes, PartShapes, Shape, case_then, cases_height, cases_rank, datas, field_then, flags, height_of, maps, no_field, no_more, parts_height, parts_rank, rank_of, words}
use Rattle.abstract_value_laws.specs.TypeLaws.{LeafRanks, NotesAdd}
use Rattle.abstract_value_laws.specs.Ranks.{unnoted}

module _ {W N C : Type 0} (B : Algebra W N C) (cap : ℕ) where
  -- ---- heights
  mutual
    height_adds : (k n : ℕ) (s : Shape) → height_of (unnoted B) cap k s ≤ height_of B cap n s
    height_adds k n flags = omega arith
    height_adds k n (words w) = omega arith
    height_adds k n (datas t ss) = cases_height_add k n ss
    height_adds k n (maps m w) = omega arith

    cases_height_add : (k n : ℕ) (ss : CaseShapes) → cases_height (unnoted B) cap k ss ≤ cases_height B cap n ss
    cases_height_add k n no_more = omega arith
    cases_height_add k n (case_then s ss) = let here = parts_height_add k n s in let later = cases_height_add k n ss in omega (arith, here, later)

    parts_height_add : (k n : ℕ) (ss : PartShapes) → parts_height (unnoted B) cap k ss ≤ parts_height B cap n ss
    parts_height_add k n no_field = omega arith
    parts_height_add k n (field_then s ss) = let here = height_adds k n s in let later = parts_height_add k n ss in omega (arith, here, later)

  module _ (c : C) (stamps : List Stamp) where
    cells_add : (w : ℕ) (cells : List (ℕ × AbstractCell W N)) → sum_by (λ e. rank_cell (unnoted B) c w [] e.1) cells ≤ sum_by (λ e. rank_cell B c w stamps e.1) cells
    cells_add w [] = omega arith
    cells_add w (e ∷ cells) =
        let later = cells_add w cells in
        let less = sum_by-cons (λ e. rank_cell (unnoted B) c w [] e.1) e cells in
        let more = sum_by-cons (λ e. rank_cell B c w stamps e.1) e cells in
        omega (arith, later, less, more)

    mutual
      adds : (s : Shape) (x : Abs W N) → rank_of (unnoted B) cap c [] s x ≤ rank_of B cap c stamps s x
      adds flags (flag t) = omega arith
      adds (words w) (word u x) = omega arith
      adds (datas t ss) (made tz cs) = cases_add ss cs
      adds (maps m w) (map n x) = let later = cells_add x.width x.cells in omega (arith, later)
      adds _ _ = omega arith

      cases_add : (ss : CaseShapes) (cs : Cases W N) → cases_rank (unnoted B) cap c [] ss cs ≤ cases_rank B cap c stamps ss cs
      cases_add (case_then s ss) (absent cs) = let here = parts_height_add 0 (length stamps) s in let later = cases_add ss cs in omega (arith, here, later)
      cases_add (case_then s ss) (present xs cs) = let here = parts_add s xs in let later = cases_add ss cs in omega (arith, here, later)
      cases_add _ _ = omega arith

      parts_add : (ss : PartShapes) (xs : Parts W N) → parts_rank (unnoted B) cap c [] ss xs ≤ parts_rank B cap c stamps ss xs
      parts_add (field_then s ss) (part x xs) = let here = adds s x in let later = parts_add ss xs in omega (arith, here, later)
      parts_add _ _ = omega arith

pub notes_add : {W N C : Type 0} (B : Algebra W N C) → NotesAdd B
notes_add B c cap stamps s x = adds B cap c stamps s x

pub leaf_ranks : {W N C : Type 0} (B : Algebra W N C) → LeafRanks B
leaf_ranks B c cap flags (flag t) l h = refl
leaf_ranks B c cap (words w) (word u x) l h = refl
leaf_ranks B c cap (maps m w) (map n x) l h = refl
leaf_ranks B c cap s (made t cs) l h = absurd l
leaf_ranks B c cap _ _ l h = absurd h
