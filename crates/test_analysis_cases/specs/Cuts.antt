-- Tables without a block.
use Rattle.std.specs.Prelude.{IsTrue}
use Rattle.fixpoint_theory.specs.Analysis.{Analysis}
use Rattle.fixpoint_theory.specs.Code.{is_code}
use Rattle.fixpoint_theory.specs.Table.{TableFits}
use Rattle.fixpoint_theory.specs.Views.{listings}
use Rattle.test_analysis_cases.specs.declared.cut.Cut.{Cut}

-- The table is one of the analysis, and so is the block at its address.
pub record IsCut {E P W S : Type 0} (view : E → P) (A : Analysis P W S) (c : Cut E) : Type 0 where
  pub fits : TableFits A (listings view c.table)
  pub code : IsTrue (is_code A.code c.at)
  pub elem : A.elements.fits (view c.block.elem)
