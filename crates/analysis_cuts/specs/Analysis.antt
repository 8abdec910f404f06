-- The analysis of a problem by cases: elements are split by what instructions cut.
use Rattle.std.specs.Prelude.{ℕ, List, [], Option, Some, None}
use Rattle.base_trait.specs.Algebra.{Algebra}
use Rattle.semantics_values.specs.declared.entry.KeyAt.{KeyAt}
use Rattle.semantics_values.specs.States.{State}
use Rattle.semantics_values.specs.Values.{Val}
use Rattle.semantics.specs.Decode.{decoded}
use Rattle.abstract_value_laws.specs.Abs.{Abs}
use Rattle.abstract_semantics.specs.Answers.{Answer}
use Rattle.fixpoint_theory.specs.Analysis.{Analysis}
use Rattle.fixpoint_theory.specs.Elements.{Elements}
use Rattle.fixpoint_cases.specs.Cases.{Split}
use Rattle.fixpoint_cases.specs.Narrowing.{split_by_first}
use Rattle.fixpoint_cases.specs.Pieces.{Piece}
use Rattle.domain_laws.specs.Domain.{Meaning}
use Rattle.analysis_transfer_laws.specs.Problem.{Problem}
use Rattle.analysis_transfer.specs.Analysis.{calls_of}
use Rattle.analysis_cases.specs.Analysis.{case_analysis_of}
use Rattle.analysis_choices.specs.Choice.{choices_of}

module _ (p : Problem) where
  abbrev pub choices_by : Option Val → List ((ℕ × KeyAt) × List ℕ)
  choices_by None = []
  choices_by (Some instruction) = choices_of p.spec p.machine instruction

  abbrev pub choices_with : Option ℕ → List ((ℕ × KeyAt) × List ℕ)
  choices_with None = []
  choices_with (Some code_word) = choices_by (decoded p.machine.instr p.spec.rows code_word)

  -- the cells that the instruction at an address cuts, and the numbers at which it does
  abbrev pub choices_at : ℕ → List ((ℕ × KeyAt) × List ℕ)
  choices_at a = choices_with (p.word_at a)

  -- by the first of them that narrows the element
  abbrev pub split_of : {E : Type 0} → Elements E State → Piece (ℕ × KeyAt) E → Split E
  split_of D piece = split_by_first D piece choices_at

-- An element is split at most as often over as the problem says. At 0 this is `analysis_of`.
abbrev pub cut_analysis_of : {E W N C : Type 0} → Algebra W N C → ℕ → Elements E State → Meaning E W N C → Piece (ℕ × KeyAt) E → (p : Problem) → (calls : ℕ → ℕ → List (Abs W N) → Answer (Abs W N))
    → Analysis E W State
cut_analysis_of B cap D M piece p calls = case_analysis_of B cap D M p calls (split_of p D piece) p.cases

-- That by the code, where calls are under widening.
abbrev pub cut_analysis : {E W N C : Type 0} → Algebra W N C → ℕ → Elements E State → Meaning E W N C → Piece (ℕ × KeyAt) E → Problem → Analysis E W State
cut_analysis B cap D M piece p = cut_analysis_of B cap D M piece p (calls_of B cap M p)
