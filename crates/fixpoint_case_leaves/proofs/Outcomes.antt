-- One case more.
use Rattle.std.proofs.Common.{IfOk}
use Rattle.std.specs.Prelude.{Result, Ok, Err}
use Rattle.fixpoint_theory.specs.Elements.{ElementLaws, Elements}
use Rattle.fixpoint_theory.specs.Outcome.{Outcome, SameOutcome}
use Rattle.fixpoint_cases.proofs.Sending.{outcome_on}

module _ {E S : Type 0} (D : Elements E S) (laws : ElementLaws D) where
  -- what is the same as one outcome, and that with another
  pub if_same : {X W F : Type 0} (view : X → Outcome E W) (result : Result X F) (d e : Outcome E W) → IfOk result (λ r. SameOutcome D (view r) d) → SameOutcome D d e → IfOk result (λ r. SameOutcome D (view r) e)
  if_same view (Ok r) d e h k = outcome_on D laws (view r) d e h k
  if_same view (Err error) d e h k = tt
