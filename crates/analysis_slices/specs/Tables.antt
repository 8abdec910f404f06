-- Slices of tables of the code.
use Rattle.std.specs.Prelude.{ℕ, Bool, List, [], ◌∷◌, Option, IsTrue}
use Rattle.base_trait.specs.Algebra.{Algebra}
use Rattle.base_trait.specs.Uses.{Read}
use Rattle.semantics_values.specs.States.{State}
use Rattle.fixpoint_theory.specs.Elements.{Elements}
use Rattle.fixpoint_theory.specs.Views.{listings}
use Rattle.fixpoint_theory.specs.declared.table.Table.{Table}
use Rattle.analysis_transfer_laws.specs.Problem.{Problem}
use Rattle.analysis_transfer_laws.specs.Runs.{Begins, IsTrueOfRuns}
use Rattle.analysis_query_laws.specs.Chains.{IsChain}
use Rattle.analysis_query_laws.specs.SliceLaws.{HoldsChain, IsReadAt}
use Rattle.analysis_query_laws.specs.Slices.{IsSlice}

-- What `slice` answers of a table that is true of every run, over a base that tells stamps, holds each chain of each read that it is of: under every
-- bound on turns, after any number of steps, from every state of the entry.
abbrev pub SlicesHoldChains : {X E W N C : Type 0} → (X → E) → Algebra W N C → Elements E State → Type 0
SlicesHoldChains {X} view B D =
    (p : Problem) (t : Table X) (at m : ℕ) (key : Option ℕ) (told : Bool) (addresses : List ℕ) → IsTrueOfRuns B D p (listings view t) → IsTrue B.notes.stamped
    → IsSlice (listings (λ e. e) t) at m key told addresses
    → (d n : ℕ) (first : State) (x : Read) (steps : List ℕ) → Begins p first → IsReadAt p d first at m key n x → IsChain p.spec p.machine p.word_at d first (x ∷ []) steps
    → HoldsChain p d first told addresses x steps
