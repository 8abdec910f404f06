-- Laws of transfers, over any domain.
use Rattle.std.specs.Prelude.{◌≡◌, ℕ, List, Some, IsTrue}
use Rattle.support_tail_fixpoint.specs.Answer.{IfGives}
use Rattle.base_trait.specs.Algebra.{Algebra}
use Rattle.semantics_values.specs.States.{State}
use Rattle.semantics_values.specs.Values.{Val}
use Rattle.semantics.specs.Decode.{decoded}
use Rattle.semantics_laws.specs.Accepted.{IsAccepted}
use Rattle.abstract_value_laws.specs.Abs.{Abs}
use Rattle.abstract_semantics.specs.Answers.{Answer}
use Rattle.fixpoint_theory.specs.Analysis.{AnalysisLaws}
use Rattle.fixpoint_theory.specs.Code.{is_code}
use Rattle.fixpoint_theory.specs.Elements.{Elements}
use Rattle.fixpoint_theory.specs.Runs.{IsSound, IsSoundTable}
use Rattle.fixpoint_theory.specs.Table.{IsClosed, Listings, TableFits}
use Rattle.domain_laws.specs.Domain.{DomainLaws, Meaning}
use Rattle.domain_laws.specs.States.{state_type}
use Rattle.domain_laws.specs.Values.{IsStateValue}
use Rattle.analysis_transfer_laws.specs.Analysis.{AreReinterpreted, analysis_of, machine_of}
use Rattle.analysis_transfer_laws.specs.Problem.{IsWellFormedProblem, Problem}
use Rattle.analysis_transfer_laws.specs.Runs.{IsTrueOfRuns}
use Rattle.analysis_transfer_laws.specs.Transfer.{arguments, counter_of, transfer_of}

module _ {E W N C : Type 0} (B : Algebra W N C) (cap : ℕ) (D : Elements E State) (M : Meaning E W N C) where
  -- There is a reinterpretation at each address, of an accepted specification over a base that joins.
  abbrev pub ReinterpretationsExist : Type 0
  ReinterpretationsExist = (p : Problem) → IsTrue B.joins → IsAccepted p.spec → (calls : ℕ → ℕ → List (Abs W N) → Answer (Abs W N)) × AreReinterpreted B cap D M p calls

  -- What the laws rest on: the base joins, the problem is well posed, the domain keeps its laws, and calls are reinterpreted.
  pub record IsAnalysed (p : Problem) (calls : ℕ → ℕ → List (Abs W N) → Answer (Abs W N)) : Type 0 where
    pub joins : IsTrue B.joins
    pub posed : IsWellFormedProblem p
    pub domain : DomainLaws B cap p.spec D M
    pub right : AreReinterpreted B cap D M p calls

  -- An evaluation of an instruction on an element that fits gives, where it gives a state, one that fits.
  abbrev pub EvaluationsGiveStates : Type 0
  EvaluationsGiveStates =
      (p : Problem) (calls : ℕ → ℕ → List (Abs W N) → Answer (Abs W N)) (a : ℕ) (x : E) (code_word : ℕ) (instruction : Val) (counter : ℕ × W)
      → IsAnalysed p calls → IsTrue (is_code p.addresses a) → D.fits x → decoded p.machine.instr p.spec.rows code_word ≡ Some instruction
      → IfGives (calls a p.machine.interp (arguments B cap M p a x instruction)) (λ y. counter_of y ≡ Some counter → IsStateValue B M.context cap (state_type p.spec) y)

  -- There is one transfer of an element that fits, at a code address, whatever reinterpretation it is by.
  abbrev pub TransfersAreOne : Type 0
  TransfersAreOne =
      (p : Problem) (calls others : ℕ → ℕ → List (Abs W N) → Answer (Abs W N)) (a : ℕ) (x : E) → IsAnalysed p calls → AreReinterpreted B cap D M p others
      → IsTrue (is_code p.addresses a) → D.fits x → transfer_of B cap M p calls a x ≡ transfer_of B cap M p others a x

  -- Transfers keep what an analysis rests on.
  abbrev pub TransfersKeepTheLaws : Type 0
  TransfersKeepTheLaws =
      (p : Problem) (calls : ℕ → ℕ → List (Abs W N) → Answer (Abs W N)) → IsAnalysed p calls → AnalysisLaws (analysis_of B cap D M p calls)

  -- They describe the steps of the machine, at every bound on turns.
  abbrev pub TransfersAreSound : Type 0
  TransfersAreSound =
      (p : Problem) (calls : ℕ → ℕ → List (Abs W N) → Answer (Abs W N)) → IsAnalysed p calls → IsSound (analysis_of B cap D M p calls) (machine_of p)

  -- So what a closed table says holds of every run of the machine.
  abbrev pub ClosedTablesHold : Type 0
  ClosedTablesHold =
      (p : Problem) (calls : ℕ → ℕ → List (Abs W N) → Answer (Abs W N)) (t : Listings E) → IsAnalysed p calls
      → TableFits (analysis_of B cap D M p calls) t → IsClosed (analysis_of B cap D M p calls) t → IsSoundTable (analysis_of B cap D M p calls) (machine_of p) t

  -- And in the words of the meaning.
  abbrev pub ClosedTablesAreTrue : Type 0
  ClosedTablesAreTrue =
      (p : Problem) (calls : ℕ → ℕ → List (Abs W N) → Answer (Abs W N)) (t : Listings E) → IsAnalysed p calls
      → TableFits (analysis_of B cap D M p calls) t → IsClosed (analysis_of B cap D M p calls) t → IsTrueOfRuns B D p t
