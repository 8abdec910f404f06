-- How functions of the evaluator end without an answer.
use Rattle.std.proofs.Common.{◌≡◌, ℕ, List, Option, Result, Err, sym, subst}
use Rattle.base_trait.specs.Algebra.{Algebra}
use Rattle.base_trait.specs.Uses.{Seen}
use Rattle.spec_ir.specs.Specification.{Spec}
use Rattle.abstract_value_laws.specs.Abs.{Abs}
use Rattle.support_tail_fixpoint.specs.Answer.{fails}
use Rattle.abstract_value.specs.declared.value.AbstractValue.{AbstractValue}
use Rattle.abstract_semantics.specs.Answers.{Answer}
use Rattle.eval_memo.specs.declared.error.EvalError.{EvalError}
use Rattle.eval_memo.specs.declared.error.EvalError.TheVariants as e
use Rattle.eval_memo.specs.declared.setting.Setting.{Setting}
use Rattle.eval_memo.specs.Memos.{Remembered, Stands}
use Rattle.evaluator.specs.Runs.{HaveGrown, Runs}
use Rattle.eval_memo.proofs.Answering.{passed}
use Rattle.evaluator.proofs.Growing.{grown_then}

module _ {X W N C : Type 0} {B : Algebra W N C} {cap : ℕ} {s : Setting X W N C} {spec : Spec} {on : ℕ → List (Abs W N) → Answer (Abs W N)} {before ticked : ℕ} {V A : Type 0} {view : V → A} {P : V → Type 0} {l : List Seen} {answer : Answer A} {old new : List (AbstractValue X W N C)} {es : List (Remembered W N)} where
  -- an error of a part
  pub failed : {U D : Type 0} {other : U → D} {Q : U → Type 0} {er : EvalError} {m n : List Seen} {later : Answer D} {mid fresh : List (AbstractValue X W N C)} {fs gs : List (Remembered W N)} {steps : ℕ}
      → Runs B cap s spec on before ticked other Q (Err er) m n later mid fresh fs gs steps → ((i : ℕ) → later ≡ fails i → answer ≡ fails i) → HaveGrown l m es fs
      → Runs B cap s spec on before ticked view P (Err er) l n answer old new es gs steps
  failed {U} {D} {other} {Q} {er} {m} {n} {later} runs so grown = record { value = passed other view er n n later answer runs.value so; fits = tt; env = tt; memo = runs.memo; grown = grown_then grown runs.grown }

  -- memory has run out
  pub no_memory : {m : List Seen} {fs : List (Remembered W N)} {steps : ℕ} → Stands on before ticked fs steps → HaveGrown l m es fs → Runs B cap s spec on before ticked view P (Err e.NoMemory) l m answer old new es fs steps
  no_memory stands grown = record { value = tt; fits = tt; env = tt; memo = stands; grown = grown }

  -- a result that is known to be such
  pub ends_by : {m : List Seen} {fs : List (Remembered W N)} {steps : ℕ} {r q : Result (Option V) EvalError} → r ≡ q → Runs B cap s spec on before ticked view P q l m answer old new es fs steps → Runs B cap s spec on before ticked view P r l m answer old new es fs steps
  ends_by {m} {fs} {steps} is runs = subst (λ r. Runs B cap s spec on before ticked view P r l m answer old new es fs steps) (sym is) runs
