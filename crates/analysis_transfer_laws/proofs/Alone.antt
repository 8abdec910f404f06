-- There is one transfer.
use Rattle.std.proofs.Common.{◌≡◌, ℕ, ◌<◌, ◌^◌, List, Option, Some, None, refl, ap, inl}
use Rattle.base_trait.specs.Algebra.{Algebra}
use Rattle.base_trait.specs.Laws.{Laws}
use Rattle.base_trait.specs.Precision.{joined_turns, unrolled_turns}
use Rattle.semantics_values.specs.States.{State}
use Rattle.semantics_values.specs.Values.{Val}
use Rattle.semantics.specs.Decode.{decoded}
use Rattle.abstract_value_laws.specs.Abs.{Abs}
use Rattle.support_tail_fixpoint.specs.declared.policy.Policy.TheVariants.{Widen}
use Rattle.abstract_semantics.specs.Answers.{Answer}
use Rattle.abstract_semantics.proofs.Alone.{calls_are_settled}
use Rattle.abstract_semantics.proofs.Exists.{widened_calls_exist}
use Rattle.fixpoint_theory.specs.Elements.{Elements}
use Rattle.domain_laws.specs.Domain.{Meaning}
use Rattle.analysis_transfer_laws.specs.Analysis.{AreReinterpreted}
use Rattle.analysis_transfer_laws.specs.Laws.{IsAnalysed, ReinterpretationsExist, TransfersAreOne}
use Rattle.analysis_transfer_laws.specs.Problem.{Problem}
use Rattle.analysis_transfer_laws.specs.Transfer.{arguments, executed, fetched, outcome_of}
use Rattle.analysis_transfer_laws.proofs.Evaluated.{are_arguments}

module _ {E W N C : Type 0} (B : Algebra W N C) (laws : Laws W N C B) (cap : ℕ) (D : Elements E State) (M : Meaning E W N C) where
  pub reinterpretations_exist : ReinterpretationsExist B cap D M
  reinterpretations_exist p joins ok = (λ a. (widened_calls_exist B laws p.spec M.context cap a unrolled_turns joined_turns ok joins).0, λ a. (widened_calls_exist B laws p.spec M.context cap a unrolled_turns joined_turns ok joins).1)

  module _ (p : Problem) (calls others : ℕ → ℕ → List (Abs W N) → Answer (Abs W N)) (h : IsAnalysed B cap D M p calls) (also : AreReinterpreted B cap D M p others) (a : ℕ) (lt : a < 2 ^ 32) (x : E) (fit : D.fits x) where
    executed_one : (code_word : ℕ) (o : Option Val) → decoded p.machine.instr p.spec.rows code_word ≡ o → executed B cap M p calls a x code_word o ≡ executed B cap M p others a x code_word o
    executed_one code_word None e = refl
    executed_one code_word (Some instruction) e =
        ap (outcome_of B M p x)
        (calls_are_settled B laws p.spec M.context cap a (Widen unrolled_turns joined_turns) (calls a) (others a) p.machine.interp (arguments B cap M p a x instruction) h.posed.accepted (inl h.joins) tt (h.right a) (also a)
        (are_arguments B laws cap D M p calls h a lt x fit code_word instruction e))

    fetched_one : (o : Option ℕ) → fetched B cap M p calls a x o ≡ fetched B cap M p others a x o
    fetched_one None = refl
    fetched_one (Some code_word) = executed_one code_word (decoded p.machine.instr p.spec.rows code_word) refl

  pub transfers_are_one : TransfersAreOne B cap D M
  transfers_are_one p calls others a x h also code fit = fetched_one p calls others h also a (h.posed.addressed a code) x fit (p.word_at a)
