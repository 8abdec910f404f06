-- The blocks of a table that stand.
use Rattle.std.specs.Prelude.{ℕ, All, List}
use Rattle.fixpoint_theory.specs.Analysis.{Analysis}
use Rattle.fixpoint_theory.specs.Verdicts.{Stands}
use Rattle.fixpoint_theory.specs.Views.{listing, listings}
use Rattle.fixpoint_theory.specs.declared.table.Block.{Block}
use Rattle.fixpoint_theory.specs.declared.table.Table.{Table}

-- the blocks of these entries stand
abbrev pub AllStand : {E P W S : Type 0} → (E → P) → Analysis P W S → Table E → List (ℕ × Block E) → Type 0
AllStand {E} view A t entries = All (λ (e : ℕ × Block E). Stands A (listings view t) (listing view e.1) (A.transfer e.0 (view e.1.elem))) entries
