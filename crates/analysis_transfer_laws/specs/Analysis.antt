-- The analysis of a problem in a domain, and the machine that is analysed.
use Rattle.std.specs.Prelude.{ℕ, List}
use Rattle.support_tail_fixpoint.specs.declared.policy.Policy.TheVariants.{Widen}
use Rattle.base_trait.specs.Algebra.{Algebra}
use Rattle.base_trait.specs.Precision.{joined_turns, unrolled_turns}
use Rattle.semantics_values.specs.States.{State}
use Rattle.semantics_values.specs.Types.{environment_of}
use Rattle.semantics.specs.Entries.{IsEntryState}
use Rattle.semantics.specs.Runs as r
use Rattle.semantics.specs.Runs.{Stepped, step}
use Rattle.spec_ir.specs.Specification.{Spec}
use Rattle.abstract_value_laws.specs.Abs.{Abs}
use Rattle.abstract_semantics.specs.Answers.{Answer}
use Rattle.abstract_semantics.specs.Calls.{AreRight}
use Rattle.fixpoint_theory.specs.Analysis.{Analysis}
use Rattle.fixpoint_theory.specs.Elements.{Elements}
use Rattle.fixpoint_theory.specs.Runs.{Machine, Step, deep, goes, left, no_decoding, stops}
use Rattle.domain_laws.specs.Domain.{Meaning}
use Rattle.domain_laws.specs.States.{IsState, state_types}
use Rattle.analysis_transfer_laws.specs.Problem.{Problem}
use Rattle.analysis_transfer_laws.specs.Transfer.{transfer_of}

-- the elements of a domain, for states that have the type of states alone
abbrev pub of_states : {E : Type 0} → Spec → Elements E State → Elements E State
of_states spec D = record D { holds = λ x s. IsState spec s × D.holds x s }

module _ {E W N C : Type 0} (B : Algebra W N C) (cap : ℕ) (D : Elements E State) (M : Meaning E W N C) (p : Problem) where
  -- `calls` is at each address the reinterpretation under widening.
  abbrev pub AreReinterpreted : (calls : ℕ → ℕ → List (Abs W N) → Answer (Abs W N)) → Type 0
  AreReinterpreted calls = (a : ℕ) → AreRight B M.context cap p.spec a (Widen unrolled_turns joined_turns) (calls a)

  abbrev pub analysis_of : (calls : ℕ → ℕ → List (Abs W N) → Answer (Abs W N)) → Analysis E W State
  analysis_of calls = record {
    elements = of_states p.spec D;
    joins = p.joins;
    code = p.addresses;
    start = p.pc;
    entry = M.entry p.lines;
    stamped = B.notes.stamped;
    transfer = transfer_of B cap M p calls;
  }

-- A step of the meaning. One that has no type stops as one without decoding.
abbrev pub step_of : Stepped → Step State
step_of (r.steps_to next reads) = goes next reads
step_of r.left = stops left
step_of (r.undecodable code_word) = stops (no_decoding code_word)
step_of r.deep = stops deep
step_of r.wrong = stops (no_decoding 0)

-- The machine begins in the states that the entry describes.
abbrev pub machine_of : Problem → Machine State
machine_of p = record {
  counter = λ s. s.pc;
  step = λ d s. step_of (step p.spec p.machine p.word_at d s);
  starts = λ s. IsEntryState (environment_of p.spec) (state_types p.spec) p.pc p.lines s;
}
