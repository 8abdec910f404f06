-- Outcomes of transfers.
use Rattle.std.specs.Prelude.{◌≡◌, ℕ, Some}
use Rattle.base_trait.specs.Algebra.{Algebra}
use Rattle.abstract_value_laws.specs.Abs.{Abs}
use Rattle.fixpoint_theory.specs.Elements.{Elements}
use Rattle.fixpoint_theory.specs.Outcome.{IfPost, Outcome, SameOutcome}
use Rattle.fixpoint_theory.specs.Views.{outcome}
use Rattle.fixpoint_theory.specs.declared.transfer.Transferred.{Transferred}
use Rattle.domain_laws.specs.States.{StateType}
use Rattle.domain_laws.specs.Values.{IsStateValue}
use Rattle.analysis_transfer_laws.specs.Transfer.{counter_of}

-- What the code gives is this outcome, up to how its element is written, and its element fits.
pub record IsOutcome {X E S W : Type 0} (D : Elements E S) (view : X → E) (r : Transferred X W) (o : Outcome E W) : Type 0 where
  pub same : SameOutcome D (outcome view r) o
  pub fits : IfPost D.fits (outcome view r)

-- If the value has a counter, it is one of states that fits.
abbrev pub IsCountedState : {W N C : Type 0} → Algebra W N C → C → ℕ → StateType → Abs W N → Type 0
IsCountedState {W} B c cap t y = (counter : ℕ × W) → counter_of y ≡ Some counter → IsStateValue B c cap t y
