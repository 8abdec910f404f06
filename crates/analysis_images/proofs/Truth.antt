-- Closed tables of an image are true of its runs.
use Rattle.std.proofs.Common.{◌≡◌, ℕ, Bool, Result, Ok, Err, IfOk}
use Rattle.base_trait.specs.Algebra.{Algebra}
use Rattle.base_trait.specs.Laws.{Laws}
use Rattle.spec_ir.specs.Specification.{Spec}
use Rattle.semantics_values.specs.States.{State}
use Rattle.fixpoint_theory.specs.Elements.{Elements}
use Rattle.fixpoint_theory.specs.Table.{IsClosed, Listings, TableFits}
use Rattle.domain_laws.specs.Domain.{DomainLaws, Meaning}
use Rattle.analysis_transfer_laws.specs.Analysis.{analysis_of}
use Rattle.analysis_transfer_laws.specs.Runs.{IsTrueOfRuns}
use Rattle.analysis_transfer_laws.proofs.Runs.{closed_tables_are_true}
use Rattle.analysis_transfer.specs.Analysis.{IsReady, calls_of, problem}
use Rattle.analysis_transfer.specs.Instance.{is_analysed}
use Rattle.analysis_transfer.specs.declared.analysis.ImageAnalysis.{ImageAnalysis}

module _ {X Y Z U V T E W N C : Type 0} (B : Algebra W N C) (laws : Laws W N C B) (cap : ℕ) (D : Elements E State) (M : Meaning E W N C) (is_for : Spec → Bool)
    (it : ImageAnalysis X Y Z U V T) (domain : DomainLaws B cap (problem it).spec D M) (ready : IsReady it B is_for) where
  pub true_where_closed : (t : Listings E) → TableFits (analysis_of B cap D M (problem it) (calls_of B cap M (problem it))) t
      → IsClosed (analysis_of B cap D M (problem it) (calls_of B cap M (problem it))) t → IsTrueOfRuns B D (problem it) t
  true_where_closed t fits closed =
      closed_tables_are_true B laws cap D M (problem it) (calls_of B cap M (problem it)) t (is_analysed B laws cap D M is_for it domain ready) fits closed

-- what holds of a result, from two things that hold of it
pub from_both : {A F : Type 0} {P Q R : A → Type 0} (r : Result A F) → ((x : A) → P x → Q x → R x) → IfOk r P → IfOk r Q → IfOk r R
from_both (Ok x) f p q = f x p q
from_both (Err e) f p q = tt

pub from_one : {A F : Type 0} {P Q : A → Type 0} (r : Result A F) → ((x : A) → P x → Q x) → IfOk r P → IfOk r Q
from_one (Ok x) f p = f x p
from_one (Err e) f p = tt
