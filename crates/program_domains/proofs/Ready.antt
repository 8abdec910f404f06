-- The analysis of a well-posed problem in a lawful domain keeps the laws of analyses, and its closed tables are true.
use Rattle.std.proofs.Common.{ℕ, List, inl}
use Rattle.base_trait.specs.Precision.{joined_turns, unrolled_turns}
use Rattle.support_tail_fixpoint.specs.declared.policy.Policy.TheVariants.{Widen}
use Rattle.abstract_value_laws.specs.Abs.{Abs}
use Rattle.abstract_semantics.specs.Answers.{Answer}
use Rattle.abstract_semantics.proofs.Right.{answers_are_right}
use Rattle.fixpoint_theory.specs.Analysis.{AnalysisLaws}
use Rattle.fixpoint_theory.specs.Runs.{IsSound}
use Rattle.fixpoint_theory.specs.Table.{IsClosed, Listings, TableFits}
use Rattle.fixpoint_open_tables.specs.Endings.{Endings, IsClosedButOpen}
use Rattle.fixpoint_open_tables.specs.Runs.{IsSoundUntilOpen}
use Rattle.analysis_transfer_laws.specs.Analysis.{machine_of}
use Rattle.analysis_transfer_laws.specs.Laws.{IsAnalysed}
use Rattle.analysis_transfer_laws.specs.OpenRuns.{IsTrueUntilOpen}
use Rattle.analysis_transfer_laws.specs.Problem.{IsWellFormedProblem, Problem}
use Rattle.analysis_transfer_laws.specs.Runs.{IsTrueOfRuns}
use Rattle.analysis_cuts.proofs.Truth as truth
use Rattle.analysis_cuts.proofs.Truth.{are_sound, keep_the_laws}
use Rattle.analysis_transfer.specs.Analysis.{calls_of}
use Rattle.program_domains.specs.Analyses.{analysis}
use Rattle.program_domains.specs.Domains.{DomainOf}
use Rattle.program_domains.proofs.Lawful.{IsLawful}

module _ {E W N C : Type 0} (domain : DomainOf E W N C) (p : Problem) (lawful : IsLawful domain p.spec) (posed : IsWellFormedProblem p) where
  abbrev pub calls : ℕ → ℕ → List (Abs W N) → Answer (Abs W N)
  calls = calls_of domain.base domain.cap domain.meaning p

  pub is_analysed : IsAnalysed domain.base domain.cap domain.elements domain.meaning p calls
  is_analysed = record {
    joins = lawful.joins;
    posed = posed;
    domain = lawful.keeps;
    right = λ at. answers_are_right domain.base lawful.laws p.spec domain.meaning.context domain.cap at (Widen unrolled_turns joined_turns) posed.accepted (inl lawful.joins) tt lawful.joins;
  }

  pub keeps_the_laws : AnalysisLaws (analysis domain p)
  keeps_the_laws = keep_the_laws domain.base lawful.laws domain.cap domain.elements domain.meaning lawful.keeps.elements domain.pieces lawful.cut p is_analysed

  pub is_sound : IsSound (analysis domain p) (machine_of p)
  is_sound = are_sound domain.base lawful.laws domain.cap domain.elements domain.meaning lawful.keeps.elements domain.pieces lawful.cut p is_analysed

  pub closed_is_true : (t : Listings E) → TableFits (analysis domain p) t → IsClosed (analysis domain p) t → IsTrueOfRuns domain.base domain.elements p t
  closed_is_true t fits closed = truth.closed_is_true domain.base lawful.laws domain.cap domain.elements domain.meaning lawful.keeps.elements domain.pieces lawful.cut p is_analysed t fits closed

  pub open_is_true : (t : Listings E) (ends : Endings W) → IsClosedButOpen (analysis domain p) t ends → IsSoundUntilOpen (analysis domain p) (machine_of p) t ends → IsTrueUntilOpen domain.base domain.elements p t ends
  open_is_true t ends closed sound = truth.open_is_true domain.base lawful.laws domain.cap domain.elements domain.meaning lawful.keeps.elements domain.pieces lawful.cut p is_analysed t ends closed sound
