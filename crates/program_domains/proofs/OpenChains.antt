-- Slices of tables that are true of runs until they are at an open address hold the chains of reads until then.
use Rattle.std.proofs.Common.{ℕ, ◌≤◌, Bool, List, [], ◌∷◌, Option, IsTrue, arith}
use Rattle.base_trait.specs.Algebra.{Algebra}
use Rattle.base_trait.specs.Uses.{Read}
use Rattle.semantics_values.specs.States.{State}
use Rattle.fixpoint_theory.specs.Elements.{Elements}
use Rattle.fixpoint_theory.specs.Table.{Listings}
use Rattle.analysis_transfer_laws.specs.OpenRuns.{IsClosedBefore, IsTrueUntilOpen}
use Rattle.analysis_transfer_laws.specs.Problem.{Problem}
use Rattle.analysis_transfer_laws.specs.Runs.{Begins}
use Rattle.analysis_query_laws.specs.Chains.{IsChain}
use Rattle.analysis_query_laws.specs.SliceLaws.{HoldsChain, IsReadAt}
use Rattle.analysis_query_laws.specs.Slices.{IsSlice}
use Rattle.analysis_query_laws.proofs.Slices.{holds_chain}

module _ {E W N C M : Type 0} (B : Algebra W N C) (D : Elements E State) (p : Problem) (t : Listings E) (ends : ℕ → Option M) (is : IsTrueUntilOpen B D p t ends) (stamped : IsTrue B.notes.stamped)
    (d : ℕ) (first : State) (begins : Begins p first) where
  closed_sooner : (i n : ℕ) → i ≤ n → IsClosedBefore p ends d n first → IsClosedBefore p ends d i first
  closed_sooner i n le closed = λ m below. closed m (omega (arith, below, le))

  pub holds_open_chain : (here m : ℕ) (key : Option ℕ) (told : Bool) (addresses : List ℕ) → IsSlice t here m key told addresses → (n : ℕ) (x : Read) (steps : List ℕ) → IsClosedBefore p ends d n first
      → IsReadAt p d first here m key n x → IsChain p.spec p.machine p.word_at d first (x ∷ []) steps → HoldsChain p d first told addresses x steps
  holds_open_chain = holds_chain p t d first begins (λ n. IsClosedBefore p ends d n first) closed_sooner (λ n next reads closed stop goes. is.covers d n first next reads begins stop closed goes stamped)
