-- Laws of analyses by cases, over any domain.
use Rattle.std.specs.Prelude.{◌≡◌, ℕ, List, IsTrue}
use Rattle.base_trait.specs.Algebra.{Algebra}
use Rattle.semantics_values.specs.States.{State}
use Rattle.abstract_value_laws.specs.Abs.{Abs}
use Rattle.abstract_semantics.specs.Answers.{Answer}
use Rattle.fixpoint_theory.specs.Analysis.{AnalysisLaws}
use Rattle.fixpoint_theory.specs.Code.{is_code}
use Rattle.fixpoint_theory.specs.Elements.{Elements}
use Rattle.fixpoint_theory.specs.Runs.{IsSound}
use Rattle.fixpoint_theory.specs.Table.{IsClosed, Listings, TableFits}
use Rattle.fixpoint_open_tables.specs.Endings.{Endings, IsClosedButOpen}
use Rattle.fixpoint_open_tables.specs.Runs.{IsSoundUntilOpen}
use Rattle.domain_laws.specs.Domain.{Meaning}
use Rattle.analysis_transfer_laws.specs.Analysis.{AreReinterpreted, machine_of}
use Rattle.analysis_transfer_laws.specs.Laws.{IsAnalysed}
use Rattle.analysis_transfer_laws.specs.OpenRuns.{IsTrueUntilOpen}
use Rattle.analysis_transfer_laws.specs.Problem.{Problem}
use Rattle.analysis_transfer_laws.specs.Runs.{IsTrueOfRuns}
use Rattle.fixpoint_cases.specs.Cases.{IsSplit, Split}
use Rattle.fixpoint_cases.specs.Same.{SplitsAlike}
use Rattle.analysis_cases.specs.Analysis.{case_analysis_of}

-- All laws hold for each way to split elements that loses no state, and to each depth.
module _ {E W N C : Type 0} (B : Algebra W N C) (cap : ℕ) (D : Elements E State) (M : Meaning E W N C) where
  -- The analysis of a problem by cases keeps the laws of an analysis, where elements that are the same are split alike.
  abbrev pub CaseAnalysesKeepTheLaws : Type 0
  CaseAnalysesKeepTheLaws =
      (p : Problem) (calls : ℕ → ℕ → List (Abs W N) → Answer (Abs W N)) (split : Split E) (depth : ℕ) → IsAnalysed B cap D M p calls → IsSplit D split → SplitsAlike D split
      → AnalysisLaws (case_analysis_of B cap D M p calls split depth)

  -- Its transfers describe the steps of the machine, at every bound on turns.
  abbrev pub CaseAnalysesAreSound : Type 0
  CaseAnalysesAreSound =
      (p : Problem) (calls : ℕ → ℕ → List (Abs W N) → Answer (Abs W N)) (split : Split E) (depth : ℕ) → IsAnalysed B cap D M p calls → IsSplit D split
      → IsSound (case_analysis_of B cap D M p calls split depth) (machine_of p)

  -- So a table that is closed for it is true of every run, in the words of the meaning.
  abbrev pub ClosedByCasesAreTrue : Type 0
  ClosedByCasesAreTrue =
      (p : Problem) (calls : ℕ → ℕ → List (Abs W N) → Answer (Abs W N)) (split : Split E) (depth : ℕ) (t : Listings E) → IsAnalysed B cap D M p calls → IsSplit D split → SplitsAlike D split
      → TableFits (case_analysis_of B cap D M p calls split depth) t → IsClosed (case_analysis_of B cap D M p calls split depth) t → IsTrueOfRuns B D p t

  -- There is one transfer by cases of an element that fits, at a code address, whatever reinterpretation it is by.
  abbrev pub CaseTransfersAreOne : Type 0
  CaseTransfersAreOne =
      (p : Problem) (calls others : ℕ → ℕ → List (Abs W N) → Answer (Abs W N)) (split : Split E) (depth a : ℕ) (x : E) → IsAnalysed B cap D M p calls → AreReinterpreted B cap D M p others
      → IsSplit D split → IsTrue (is_code p.addresses a) → D.fits x
      → (case_analysis_of B cap D M p calls split depth).transfer a x ≡ (case_analysis_of B cap D M p others split depth).transfer a x

  -- And one that is closed but where it is left open is true of every run up to and with the first state there.
  abbrev pub OpenByCasesAreTrue : Type 0
  OpenByCasesAreTrue =
      (p : Problem) (calls : ℕ → ℕ → List (Abs W N) → Answer (Abs W N)) (split : Split E) (depth : ℕ) (t : Listings E) (ends : Endings W) → IsAnalysed B cap D M p calls
      → IsClosedButOpen (case_analysis_of B cap D M p calls split depth) t ends → IsSoundUntilOpen (case_analysis_of B cap D M p calls split depth) (machine_of p) t ends → IsTrueUntilOpen B D p t ends
