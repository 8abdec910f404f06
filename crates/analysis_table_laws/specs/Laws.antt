-- Tables that are one, up to how their elements are written, say the same.
use Rattle.std.specs.Prelude.{◌≡◌, ℕ, List}
use Rattle.base_trait.specs.Algebra.{Algebra}
use Rattle.semantics_values.specs.States.{State}
use Rattle.abstract_value_laws.specs.Abs.{Abs}
use Rattle.abstract_semantics.specs.Answers.{Answer}
use Rattle.fixpoint_theory.specs.Analysis.{Analysis}
use Rattle.fixpoint_theory.specs.Elements.{Elements}
use Rattle.fixpoint_theory.specs.Table.{AreSameTables, Listings, TableFits}
use Rattle.fixpoint_theory.specs.Verdicts.{verdict_of}
use Rattle.domain_laws.specs.Domain.{Meaning}
use Rattle.analysis_transfer_laws.specs.Analysis.{analysis_of}
use Rattle.analysis_transfer_laws.specs.Laws.{IsAnalysed}
use Rattle.analysis_transfer_laws.specs.Problem.{Problem}
use Rattle.analysis_transfer_laws.specs.Runs.{IsTrueOfRuns}

module _ {E W S : Type 0} (A : Analysis E W S) where
  -- They have one verdict.
  abbrev pub SameTablesSameVerdict : Type 0
  SameTablesSameVerdict = (t u : Listings E) → TableFits A t → TableFits A u → AreSameTables A t u → verdict_of A t ≡ verdict_of A u

module _ {E W N C : Type 0} (B : Algebra W N C) (cap : ℕ) (D : Elements E State) (M : Meaning E W N C) where
  -- Where one is true of every run, so is the other.
  abbrev pub SameTablesAreTrue : Type 0
  SameTablesAreTrue =
      (p : Problem) (calls : ℕ → ℕ → List (Abs W N) → Answer (Abs W N)) (t u : Listings E) → IsAnalysed B cap D M p calls
      → TableFits (analysis_of B cap D M p calls) t → TableFits (analysis_of B cap D M p calls) u → AreSameTables (analysis_of B cap D M p calls) t u
      → IsTrueOfRuns B D p t → IsTrueOfRuns B D p u
