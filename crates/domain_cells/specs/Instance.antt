-- The laws of elements of cells.
use Rattle.std.specs.Prelude.{ℕ, IsTrue}
use Rattle.base_trait.specs.Algebra.{Algebra}
use Rattle.base_trait.specs.Laws.{Laws}
use Rattle.spec_ir.specs.Specification.{Spec}
use Rattle.base_cuts.specs.Cuts.{CutLaws, Cuts}
use Rattle.domain_laws.specs.Calls.{is_for}
use Rattle.domain_laws.specs.Cells.{cells}
use Rattle.domain_laws.specs.Laws.{CellsKeepTheLaws}
use Rattle.domain_laws.specs.Pieces.{AreCut}
use Rattle.domain_laws.specs.States.{StateType}
use Rattle.domain_laws.proofs.Domain as proofs
use Rattle.domain_laws.proofs.Domain.{it_joins}
use Rattle.domain_cell_pieces.specs.Pieces.{cell_piece}
use Rattle.domain_cell_pieces.proofs.Pieces as pieces

pub cells_keep_the_laws : {W N C : Type 0} (B : Algebra W N C) (L : Laws W N C B) → CellsKeepTheLaws B
cells_keep_the_laws B L = proofs.cells_keep_the_laws B L

pub cells_are_cut : {W N C : Type 0} (B : Algebra W N C) → Laws W N C B → (K : Cuts W C) → CutLaws B.words K → (c : C) (cap : ℕ) (t : StateType) (spec : Spec) → IsTrue (is_for B t spec)
    → AreCut (cells B c cap t.fields) (cell_piece B K c cap t.fields)
cells_are_cut B L K cut c cap t spec made = pieces.cells_are_cut B L K cut (it_joins B t spec made) c cap t.fields
