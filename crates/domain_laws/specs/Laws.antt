-- What holds of elements of cells over any base.
use Rattle.std.specs.Prelude.{ℕ, IsTrue}
use Rattle.base_trait.specs.Algebra.{Algebra}
use Rattle.spec_ir.specs.Specification.{Spec}
use Rattle.domain_laws.specs.Domain.{DomainLaws}
use Rattle.domain_laws.specs.States.{StateType}
use Rattle.domain_laws.specs.Calls.{cell_calls, is_for}
use Rattle.domain_laws.specs.Cells.{cells}

module _ {W N C : Type 0} (B : Algebra W N C) where
  -- They are a domain for each specification that they are for.
  abbrev pub CellsKeepTheLaws : Type 0
  CellsKeepTheLaws = (c : C) (cap : ℕ) (t : StateType) (spec : Spec) → IsTrue (is_for B t spec) → DomainLaws B cap spec (cells B c cap t.fields) (cell_calls B c cap t)
