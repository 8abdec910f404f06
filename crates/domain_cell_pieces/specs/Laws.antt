-- What holds of pieces of elements of cells over any base.
use Rattle.std.specs.Prelude.{ℕ, List, IsTrue}
use Rattle.base_trait.specs.Algebra.{Algebra}
use Rattle.domain_laws.specs.declared.field.Field.{Field}
use Rattle.domain_laws.specs.Cells.{cells}
use Rattle.base_cuts.specs.Cuts.{CutLaws, Cuts}
use Rattle.domain_laws.specs.Pieces.{AreCut}
use Rattle.domain_cell_pieces.specs.Pieces.{cell_piece}

-- Elements of cells are cut as their words are.
abbrev pub CellsAreCut : {W N C : Type 0} → Algebra W N C → Type 0
CellsAreCut {W} {N} {C} B =
    (K : Cuts W C) → CutLaws B.words K → IsTrue B.joins → (c : C) (cap : ℕ) (fields : List Field) → AreCut (cells B c cap fields) (cell_piece B K c cap fields)
