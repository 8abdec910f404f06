-- Cells: a word with its note. Each operation goes part by part.
use Rattle.std.specs.Prelude.{ℕ, ◌+◌, Bool, ◌&&◌, List, [], ◌∷◌}
use Rattle.base_trait.specs.Algebra.{Algebra}
use Rattle.base_trait.specs.Lists.{AreAmong}
use Rattle.base_trait.specs.declared.uses.Stamp.{Stamp}
use Rattle.abstract_map_laws.specs.declared.cell.AbstractCell.{AbstractCell}

-- a concrete cell: a number, and the place that wrote it
pub record Held : Type 0 where
  pub number : ℕ
  pub stamp : Stamp

module _ {W N C : Type 0} (B : Algebra W N C) where
  -- the note lists only these stamps
  abbrev pub ListsOnly : List Stamp → AbstractCell W N → Type 0
  ListsOnly stamps x = AreAmong (B.notes.listed x.note) stamps

  -- at a width, in a valuation
  abbrev pub CellDescribes : List ℕ → ℕ → Held → AbstractCell W N → Type 0
  CellDescribes valuation w h x = B.words.describes valuation w h.number x.word × B.notes.describes h.stamp x.note

  -- over a context, at a width
  module _ (c : C) (w : ℕ) where
    abbrev pub CellFits : AbstractCell W N → Type 0
    CellFits x = B.words.fits c w x.word

    abbrev pub join_cells : AbstractCell W N → AbstractCell W N → AbstractCell W N
    join_cells x y = record { word = B.words.join c w x.word y.word; note = B.notes.join x.note y.note }

    abbrev pub widen_cells : AbstractCell W N → AbstractCell W N → AbstractCell W N
    widen_cells old new = record { word = B.words.widen c w old.word new.word; note = B.notes.widen old.note new.note }

    abbrev pub absorbs_cell : AbstractCell W N → AbstractCell W N → Bool
    absorbs_cell old new = B.words.absorbs c w old.word new.word && B.notes.absorbs old.note new.note

    abbrev pub rank_cell : List Stamp → AbstractCell W N → ℕ
    rank_cell stamps x = B.words.rank c w x.word + B.notes.rank stamps x.note

    -- a cell joined with others, the first of them first
    abbrev pub joined : AbstractCell W N → List (AbstractCell W N) → AbstractCell W N
    joined x [] = x
    joined x (y ∷ ys) = joined (join_cells x y) ys
