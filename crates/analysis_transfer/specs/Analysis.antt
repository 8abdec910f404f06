-- What is analysed, as plain data, and when the analysis is ready.
use Rattle.std.specs.Prelude.{◌≡◌, ℕ, Bool, List, IsTrue}
use Rattle.support_tail_fixpoint.specs.declared.policy.Policy.TheVariants.{Widen}
use Rattle.base_trait.specs.Algebra.{Algebra}
use Rattle.base_trait.specs.Precision.{joined_turns, unrolled_turns}
use Rattle.spec_ir.specs.Specification.{Spec}
use Rattle.spec_ir.specs.Views.{specification}
use Rattle.eval_code.specs.Lowered.{IsCodeOf}
use Rattle.eval_code.specs.Views.{code}
use Rattle.code_image.specs.Decoders.{IsDecoderOf}
use Rattle.state_text.specs.Reading.{entry_of}
use Rattle.abstract_value_laws.specs.Abs.{Abs}
use Rattle.abstract_semantics.specs.Answers.{Answer}
use Rattle.abstract_semantics.specs.CallAnswers.{answers}
use Rattle.domain_laws.specs.Domain.{Meaning}
use Rattle.domain_laws.specs.States.{state_type}
use Rattle.analysis_transfer_laws.specs.Problem.{IsWellFormedProblem, Problem}
use Rattle.analysis_problems.specs.Problems.{problem_of}
use Rattle.analysis_transfer.specs.declared.analysis.ImageAnalysis.{ImageAnalysis}

module _ {D B E W N C : Type 0} (it : ImageAnalysis D B E W N C) where
  -- the machine with its code, the entry, how many targets an instruction may have, how many changes of an element join, and how often over an element is split
  abbrev pub problem : Problem
  problem = problem_of (specification it.spec.now) it.machine it.image.now (entry_of it.entry.now) it.limit it.joins it.cases

  -- The base joins, the domain is for the specification, and the problem is well posed. Code, decoder and fields of states are the
  -- specification's.
  pub record IsReady {W' N' C' : Type 0} (A : Algebra W' N' C') (is_for : Spec → Bool) : Type 0 where
    pub joins : IsTrue A.joins
    pub made : IsTrue (is_for problem.spec)
    pub posed : IsWellFormedProblem problem
    pub code_is : IsCodeOf (code it.cir.now) problem.spec
    pub decoder_is : IsDecoderOf problem.spec.rows it.decoder.now
    pub fields_are : it.fields.now ≡ (state_type problem.spec).fields

-- what a call of a function by the instruction at an address gives
abbrev pub calls_of : {E W N C : Type 0} → Algebra W N C → ℕ → Meaning E W N C → Problem → ℕ → ℕ → List (Abs W N) → Answer (Abs W N)
calls_of B cap M p at = answers B M.context cap p.spec at (Widen unrolled_turns joined_turns)
