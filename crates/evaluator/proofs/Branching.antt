-- What an arm gives, with the values of its variables behind the frame.
use Rattle.std.proofs.Common.{◌≡◌, ◌∙◌, ◌++◌, ℕ, List, Option, Some, None, Result, Ok, Err, length, map, take, refl, sym, ap, subst}
use Rattle.std.proofs.Math.Seq.{take-append_seam}
use Rattle.std.proofs.lemmas.List.{map-append}
use Rattle.base_trait.specs.Algebra.{Algebra}
use Rattle.base_trait.specs.Uses.{Seen}
use Rattle.spec_ir.specs.Specification.{Spec}
use Rattle.abstract_value_laws.specs.Abs.{Abs}
use Rattle.abstract_value.specs.View.{abs}
use Rattle.abstract_value.specs.declared.value.AbstractValue.{AbstractValue}
use Rattle.abstract_semantics.specs.Answers.{Answer}
use Rattle.eval_memo.specs.declared.error.EvalError.{EvalError}
use Rattle.eval_memo.specs.declared.setting.Setting.{Setting}
use Rattle.eval_memo.specs.Given.{Gives}
use Rattle.eval_memo.specs.Memos.{Remembered, Stands}
use Rattle.eval_activation.specs.Views.{yield}
use Rattle.eval_activation.specs.declared.turn_yield.TurnYield.{TurnYield}
use Rattle.evaluator.specs.Arms.{Arms, Branch, arm_at, given_arm, given_branch}
use Rattle.evaluator.specs.Runs.{Runs}
use Rattle.evaluator.proofs.Growing.{no_more}
use Rattle.evaluator.proofs.Arming.{arm_is, arm_missing}

module _ {X W N C : Type 0} (B : Algebra W N C) (cap : ℕ) (on : ℕ → List (Abs W N) → Answer (Abs W N)) (s : Setting X W N C) where
  branch_so : (ts : Arms) (k : ℕ) (old named wide : List (AbstractValue X W N C)) (l m : List Seen) (x : Branch) → Some x ≡ arm_at ts k → wide ≡ old ++ named → (r : Result (Option (TurnYield X W N C)) EvalError)
      → Gives (yield {X = X} {W = W} {N = N} {C = C}) r m (given_branch B cap on s (map abs wide) x l) → Gives (yield {X = X} {W = W} {N = N} {C = C}) r m (given_arm B cap on s (map abs old) ts k (map abs named) l)
  branch_so ts k old named wide l m x here wider r h =
      subst (λ a. Gives (yield {X = X} {W = W} {N = N} {C = C}) r m a) (sym (arm_is B cap on s (map abs old) ts k (map abs named) x l (sym here)))
      (subst (λ vs. Gives (yield {X = X} {W = W} {N = N} {C = C}) r m (given_branch B cap on s vs x l)) (ap (map abs) wider ∙ map-append abs old named) h)

module _ {X W N C : Type 0} {B : Algebra W N C} {cap : ℕ} {s : Setting X W N C} {spec : Spec} {on : ℕ → List (Abs W N) → Answer (Abs W N)} {before ticked : ℕ} {P : TurnYield X W N C → Type 0} {l : List Seen} {es : List (Remembered W N)} (ts : Arms) (k : ℕ) where
  pub no_branch : (vs : List (Abs W N)) {env : List (AbstractValue X W N C)} {steps : ℕ} → None ≡ arm_at ts k → Stands on before ticked es steps → Runs B cap s spec on before ticked yield P (Ok None) l l (given_arm B cap on s (map abs env) ts k vs l) env env es es steps
  no_branch vs {env} past stands = record { value = arm_missing B cap on s (map abs env) ts k vs l (sym past); fits = tt; env = refl; memo = stands; grown = no_more l es }

  module _ {old wide new : List (AbstractValue X W N C)} {m : List Seen} {fs : List (Remembered W N)} {steps : ℕ} (named : List (AbstractValue X W N C)) (x : Branch) (here : Some x ≡ arm_at ts k) (wider : wide ≡ old ++ named) where
    pub branch_failed : {last : List (AbstractValue X W N C)} {er : EvalError} → Runs B cap s spec on before ticked yield P (Err er) l m (given_branch B cap on s (map abs wide) x l) wide new es fs steps
        → Runs B cap s spec on before ticked yield P (Err er) l m (given_arm B cap on s (map abs old) ts k (map abs named) l) old last es fs steps
    branch_failed {last} {er} runs = record { value = branch_so B cap on s ts k old named wide l m x here wider (Err er) runs.value; fits = tt; env = tt; memo = runs.memo; grown = runs.grown }

    pub branch_gave : {last : List (AbstractValue X W N C)} {y : Option (TurnYield X W N C)} (outer : ℕ) → outer ≡ length old → last ≡ take outer new → Runs B cap s spec on before ticked yield P (Ok y) l m (given_branch B cap on s (map abs wide) x l) wide new es fs steps
        → Runs B cap s spec on before ticked yield P (Ok y) l m (given_arm B cap on s (map abs old) ts k (map abs named) l) old last es fs steps
    branch_gave {last} {y} outer long cut runs = record {
      value = branch_so B cap on s ts k old named wide l m x here wider (Ok y) runs.value;
      fits = runs.fits;
      env = cut ∙ ap (λ n. take n new) long ∙ ap (λ zs. take (length old) zs) (runs.env ∙ wider) ∙ take-append_seam old named;
      memo = runs.memo;
      grown = runs.grown;
    }
