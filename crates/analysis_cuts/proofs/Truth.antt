-- The analysis of an image by cases keeps the laws and is sound, and its closed tables are true of the runs.
use Rattle.std.proofs.Common.{ℕ, Bool, Result, Ok, Err, IfOk}
use Rattle.base_trait.specs.Algebra.{Algebra}
use Rattle.base_trait.specs.Laws.{Laws}
use Rattle.spec_ir.specs.Specification.{Spec}
use Rattle.semantics_values.specs.declared.entry.KeyAt.{KeyAt}
use Rattle.semantics_values.specs.States.{State}
use Rattle.fixpoint_theory.specs.Analysis.{AnalysisLaws}
use Rattle.fixpoint_theory.specs.Elements.{ElementLaws, Elements}
use Rattle.fixpoint_theory.specs.Runs.{IsSound}
use Rattle.fixpoint_theory.specs.Table.{IsClosed, Listings, TableFits}
use Rattle.fixpoint_cases.specs.Pieces.{Piece}
use Rattle.fixpoint_open_tables.specs.Endings.{Endings, IsClosedButOpen}
use Rattle.fixpoint_open_tables.specs.Runs.{IsSoundUntilOpen}
use Rattle.domain_laws.specs.Domain.{DomainLaws, Meaning}
use Rattle.domain_laws.specs.Pieces.{AreCut}
use Rattle.analysis_transfer_laws.specs.Analysis.{machine_of}
use Rattle.analysis_transfer_laws.specs.Laws.{IsAnalysed}
use Rattle.analysis_transfer_laws.specs.OpenRuns.{IsTrueUntilOpen}
use Rattle.analysis_transfer_laws.specs.Problem.{Problem}
use Rattle.analysis_transfer_laws.specs.Runs.{IsTrueOfRuns}
use Rattle.analysis_transfer.specs.Analysis.{IsReady, calls_of, problem}
use Rattle.analysis_transfer.specs.Instance.{is_analysed}
use Rattle.analysis_transfer.specs.declared.analysis.ImageAnalysis.{ImageAnalysis}
use Rattle.analysis_cases.proofs.Analyses.{case_analyses_are_sound, case_analyses_keep_the_laws, closed_by_cases_are_true, open_by_cases_are_true}
use Rattle.analysis_cuts.specs.Analysis.{cut_analysis, split_of}
use Rattle.analysis_cuts.specs.Instance.{are_alike, are_split}

module _ {E W N C : Type 0} (B : Algebra W N C) (laws : Laws W N C B) (cap : ℕ) (D : Elements E State) (M : Meaning E W N C) (elements : ElementLaws D) (piece : Piece (ℕ × KeyAt) E) (cut : AreCut D piece) (p : Problem) where
  pub closed_is_true : IsAnalysed B cap D M p (calls_of B cap M p) → (t : Listings E) → TableFits (cut_analysis B cap D M piece p) t → IsClosed (cut_analysis B cap D M piece p) t → IsTrueOfRuns B D p t
  closed_is_true analysed t fits closed = closed_by_cases_are_true B laws cap D M p (calls_of B cap M p) (split_of p D piece) p.cases t analysed (are_split D elements piece cut p) (are_alike D elements piece cut p) fits closed

  pub keep_the_laws : IsAnalysed B cap D M p (calls_of B cap M p) → AnalysisLaws (cut_analysis B cap D M piece p)
  keep_the_laws analysed = case_analyses_keep_the_laws B laws cap D M p (calls_of B cap M p) (split_of p D piece) p.cases analysed (are_split D elements piece cut p) (are_alike D elements piece cut p)

  pub are_sound : IsAnalysed B cap D M p (calls_of B cap M p) → IsSound (cut_analysis B cap D M piece p) (machine_of p)
  are_sound analysed = case_analyses_are_sound B laws cap D M p (calls_of B cap M p) (split_of p D piece) p.cases analysed (are_split D elements piece cut p)

  pub open_is_true : IsAnalysed B cap D M p (calls_of B cap M p) → (t : Listings E) (ends : Endings W) → IsClosedButOpen (cut_analysis B cap D M piece p) t ends
      → IsSoundUntilOpen (cut_analysis B cap D M piece p) (machine_of p) t ends → IsTrueUntilOpen B D p t ends
  open_is_true analysed t ends closed sound = open_by_cases_are_true B laws cap D M p (calls_of B cap M p) (split_of p D piece) p.cases t ends analysed closed sound

-- of an analysis of an image that is ready
module _ {X Y Z U V T E W N C : Type 0} (B : Algebra W N C) (laws : Laws W N C B) (cap : ℕ) (D : Elements E State) (M : Meaning E W N C) (piece : Piece (ℕ × KeyAt) E) (is_for : Spec → Bool)
    (it : ImageAnalysis X Y Z U V T) (domain : DomainLaws B cap (problem it).spec D M) (cut : AreCut D piece) (ready : IsReady it B is_for) where
  pub image_keeps_the_laws : AnalysisLaws (cut_analysis B cap D M piece (problem it))
  image_keeps_the_laws = keep_the_laws B laws cap D M domain.elements piece cut (problem it) (is_analysed B laws cap D M is_for it domain ready)

-- what holds of a result, from two things that hold of it
pub from_both : {A F : Type 0} {P Q R : A → Type 0} (r : Result A F) → ((x : A) → P x → Q x → R x) → IfOk r P → IfOk r Q → IfOk r R
from_both (Ok x) f p q = f x p q
from_both (Err e) f p q = tt

pub from_one : {A F : Type 0} {P Q : A → Type 0} (r : Result A F) → ((x : A) → P x → Q x) → IfOk r P → IfOk r Q
from_one (Ok x) f p = f x p
from_one (Err e) f p = tt
