-- The analysis of a problem by cases.
use Rattle.std.specs.Prelude.{ℕ, List}
use Rattle.base_trait.specs.Algebra.{Algebra}
use Rattle.semantics_values.specs.States.{State}
use Rattle.abstract_value_laws.specs.Abs.{Abs}
use Rattle.abstract_semantics.specs.Answers.{Answer}
use Rattle.fixpoint_theory.specs.Analysis.{Analysis}
use Rattle.fixpoint_theory.specs.Elements.{Elements}
use Rattle.domain_laws.specs.Domain.{Meaning}
use Rattle.domain_laws.specs.States.{state_type}
use Rattle.analysis_transfer_laws.specs.Analysis.{analysis_of}
use Rattle.analysis_transfer_laws.specs.Problem.{Problem}
use Rattle.analysis_transfer_laws.specs.Uses.{merged_uses}
use Rattle.fixpoint_cases.specs.ByCases.{by_cases}
use Rattle.fixpoint_cases.specs.Cases.{Split}

-- `calls` is at each address the reinterpretation under widening. An element is split at most so many times over before its transfer.
abbrev pub case_analysis_of : {E W N C : Type 0} → Algebra W N C → ℕ → Elements E State → Meaning E W N C → (p : Problem) → (calls : ℕ → ℕ → List (Abs W N) → Answer (Abs W N)) → Split E → ℕ
    → Analysis E W State
case_analysis_of B cap D M p calls split depth = by_cases (analysis_of B cap D M p calls) split (merged_uses (state_type p.spec).fields) depth
