-- What an evaluation gives of an instruction.
use Rattle.std.proofs.Common.{◌≡◌, ℕ, ◌<◌, ◌^◌, List, [], Option, Some, None, Result, Ok, Err, IsTrue, inl, refl, sym, ap, subst, ◌∙◌}
use Rattle.support_tail_fixpoint.specs.Answer.{IfGives, Succeeds, fails, gives}
use Rattle.base_trait.specs.Algebra.{Algebra}
use Rattle.base_trait.specs.Laws.{Laws}
use Rattle.base_trait.specs.Precision.{joined_turns, unrolled_turns}
use Rattle.base_trait.specs.Uses.{Seen}
use Rattle.semantics_values.specs.States.{State}
use Rattle.semantics_values.specs.Values.{Val}
use Rattle.semantics.specs.Decode.{decoded}
use Rattle.abstract_value_laws.specs.Abs.{Abs}
use Rattle.abstract_semantics.specs.Answers.{Answer, behind}
use Rattle.abstract_semantics.proofs.Plain.{widened_calls_succeed}
use Rattle.eval_memo.specs.Given.{Gives}
use Rattle.eval_memo.specs.declared.error.EvalError.{EvalError}
use Rattle.eval_memo.specs.declared.error.EvalError.TheVariants.{OutOfFuel}
use Rattle.fixpoint_theory.specs.Code.{is_code}
use Rattle.fixpoint_theory.specs.Elements.{Elements}
use Rattle.domain_laws.specs.Domain.{Meaning}
use Rattle.domain_laws.specs.States.{state_type}
use Rattle.domain_laws.specs.Values.{IsStateValue}
use Rattle.analysis_transfer_laws.specs.Laws.{IsAnalysed}
use Rattle.analysis_transfer_laws.specs.Problem.{Problem}
use Rattle.analysis_transfer_laws.specs.Transfer.{arguments, counter_of}
use Rattle.analysis_transfer_laws.proofs.Evaluated.{are_arguments}
use Rattle.analysis_transfer_laws.proofs.Keeping.{evaluations_give_states}

-- an answer behind no reads
pub behind_none : {A : Type 0} (r : Answer A) → behind [] r ≡ r
behind_none (fails i) = refl
behind_none (gives x own) = refl

module _ {V A : Type 0} (view : V → A) (r : Result (Option V) EvalError) (log : List Seen) where
  -- from an empty log on
  pub from_none : (old : List Seen) (answer other : Answer A) → old ≡ [] → other ≡ answer → Gives view r log (behind old answer) → Gives view r log other
  from_none old answer other none same h = subst (Gives view r log) (ap (λ l. behind l answer) none ∙ behind_none answer ∙ sym same) h

  -- the answer, by the result
  pub gave_value : (answer : Answer A) (v : V) → r ≡ Ok (Some v) → Gives view r log answer → answer ≡ gives (Some (view v)) log
  gave_value answer v e h = subst (λ r. Gives view r log answer) e h

  pub gave_none : (answer : Answer A) → r ≡ Ok None → Gives view r log answer → answer ≡ gives None log
  gave_none answer e h = subst (λ r. Gives view r log answer) e h

  pub gave_deep : (answer : Answer A) (f : ℕ) → r ≡ Err (OutOfFuel f) → Gives view r log answer → answer ≡ fails f
  gave_deep answer f e h = subst (λ r. Gives view r log answer) e h

module _ {E W N C : Type 0} (B : Algebra W N C) (laws : Laws W N C B) (cap : ℕ) (D : Elements E State) (M : Meaning E W N C) (p : Problem) (calls : ℕ → ℕ → List (Abs W N) → Answer (Abs W N)) (h : IsAnalysed B cap D M p calls) where
  -- a value that has a counter is one of states
  pub counted_state : (a : ℕ) (x : E) (code_word : ℕ) (instruction : Val) (y : Abs W N) (log : List Seen) → IsTrue (is_code p.addresses a) → D.fits x
      → decoded p.machine.instr p.spec.rows code_word ≡ Some instruction → calls a p.machine.interp (arguments B cap M p a x instruction) ≡ gives (Some y) log
      → (counter : ℕ × W) → counter_of y ≡ Some counter → IsStateValue B M.context cap (state_type p.spec) y
  counted_state a x code_word instruction y log here fit e answer counter =
      subst (λ r. IfGives r (λ y. counter_of y ≡ Some counter → IsStateValue B M.context cap (state_type p.spec) y)) answer
      (evaluations_give_states B laws cap D M p calls a x code_word instruction counter h here fit e)

  -- no evaluation is too deep: widening ends each activation
  pub not_deep : (a : ℕ) (x : E) (code_word : ℕ) (instruction : Val) (f : ℕ) → a < 2 ^ 32 → D.fits x → decoded p.machine.instr p.spec.rows code_word ≡ Some instruction
      → calls a p.machine.interp (arguments B cap M p a x instruction) ≡ fails f → ⊥
  not_deep a x code_word instruction f lt fit e deep =
      subst Succeeds deep
      (widened_calls_succeed B laws p.spec M.context cap a unrolled_turns joined_turns (calls a) p.machine.interp (arguments B cap M p a x instruction) h.posed.accepted (inl h.joins) (h.right a)
      (are_arguments B laws cap D M p calls h a lt x fit code_word instruction e))
