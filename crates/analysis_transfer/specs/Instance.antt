-- An analysis that is ready keeps the laws of an analysis, and is sound for its machine.
use Rattle.std.specs.Prelude.{ℕ, Bool, List}
use Rattle.std.proofs.Common.{inl}
use Rattle.support_tail_fixpoint.specs.declared.policy.Policy.TheVariants.{Widen}
use Rattle.base_trait.specs.Algebra.{Algebra}
use Rattle.base_trait.specs.Laws.{Laws}
use Rattle.base_trait.specs.Precision.{joined_turns, unrolled_turns}
use Rattle.spec_ir.specs.Specification.{Spec}
use Rattle.semantics_values.specs.States.{State}
use Rattle.abstract_value_laws.specs.Abs.{Abs}
use Rattle.abstract_semantics.specs.Answers.{Answer}
use Rattle.abstract_semantics.proofs.Right.{answers_are_right}
use Rattle.fixpoint_theory.specs.Analysis.{AnalysisLaws}
use Rattle.fixpoint_theory.specs.Elements.{Elements}
use Rattle.fixpoint_theory.specs.Runs.{IsSound}
use Rattle.domain_laws.specs.Domain.{DomainLaws, Meaning}
use Rattle.analysis_transfer_laws.specs.Analysis.{analysis_of, machine_of}
use Rattle.analysis_transfer_laws.specs.Laws.{IsAnalysed}
use Rattle.analysis_transfer_laws.proofs.Keeping.{transfers_keep_the_laws}
use Rattle.analysis_transfer_laws.proofs.Sound.{transfers_are_sound}
use Rattle.analysis_transfer.specs.declared.analysis.ImageAnalysis.{ImageAnalysis}
use Rattle.analysis_transfer.specs.Analysis.{IsReady, calls_of, problem}

module _ {X Y Z U V T E W N C : Type 0} (B : Algebra W N C) (laws : Laws W N C B) (cap : ℕ) (D : Elements E State) (M : Meaning E W N C) (is_for : Spec → Bool)
    (it : ImageAnalysis X Y Z U V T) (domain : DomainLaws B cap (problem it).spec D M) (ready : IsReady it B is_for) where
  abbrev calls : ℕ → ℕ → List (Abs W N) → Answer (Abs W N)
  calls = calls_of B cap M (problem it)

  pub is_analysed : IsAnalysed B cap D M (problem it) calls
  is_analysed = record {
    joins = ready.joins;
    posed = ready.posed;
    domain = domain;
    right = λ at. answers_are_right B laws (problem it).spec M.context cap at (Widen unrolled_turns joined_turns) ready.posed.accepted (inl ready.joins) tt ready.joins;
  }

  pub keeps_the_laws : AnalysisLaws (analysis_of B cap D M (problem it) calls)
  keeps_the_laws = transfers_keep_the_laws B laws cap D M (problem it) calls is_analysed

  pub is_sound : IsSound (analysis_of B cap D M (problem it) calls) (machine_of (problem it))
  is_sound = transfers_are_sound B laws cap D M (problem it) calls is_analysed
