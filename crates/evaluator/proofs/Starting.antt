-- When an evaluation begins.
use Rattle.std.proofs.Common.{◌≡◌, ◌∙◌, ◌++◌, ◌<◌, ◌≤◌, ℕ, false, ltb, List, [], ◌∷◌, Option, None, Result, Ok, Err, option_map, cond, length, sym, ap, append-nil, arith}
use Rattle.std.proofs.lemmas.Bool.{le-ltb}
use Rattle.std.proofs.lemmas.List.{length-map}
use Rattle.support_tail_fixpoint.specs.declared.policy.Policy.{Policy}
use Rattle.spec_ir.specs.Specification.{Spec}
use Rattle.spec_ir.specs.Views.{fun_of}
use Rattle.abstract_semantics.specs.CallAnswers.{answers}
use Rattle.std.specs.Prelude.{All, IfOk, ◌^◌}
use Rattle.std.proofs.lemmas.List.Elements.{All-nil, All-cons}
use Rattle.base_trait.specs.Algebra.{Algebra}
use Rattle.base_trait.specs.Laws.{Laws}
use Rattle.abstract_map_laws.proofs.Fitting.{room}
use Rattle.base_trait.specs.Uses.{Seen}
use Rattle.abstract_value.specs.View.{abs}
use Rattle.abstract_value.specs.declared.value.AbstractValue.{AbstractValue}
use Rattle.support_tail_fixpoint.specs.Answer.{gives}
use Rattle.abstract_semantics.specs.Answers.{Answer, behind}
use Rattle.eval_memo.specs.declared.error.EvalError.{EvalError}
use Rattle.eval_memo.specs.Given.{Gives}
use Rattle.eval_memo.proofs.Answering.{passed}
use Rattle.abstract_value_laws.specs.Abs.{Abs, parts}
use Rattle.abstract_value_laws.specs.Fits.{Fits, PartsFit}
use Rattle.abstract_semantics.proofs.Right.{answers_are_right}
use Rattle.eval_memo.specs.declared.setting.Setting.{Setting}
use Rattle.eval_memo.specs.Memos.{Remembered, Stands}
use Rattle.eval_memo.specs.Ready.{IsReady}
use Rattle.eval_memo.specs.Settings.{spec_of}
use Rattle.eval_activation.proofs.Readiness.{may_evaluate}
use Rattle.evaluator.specs.Calls.{IsRight, MayEvaluate, calls_of}

module _ {W N C : Type 0} (B : Algebra W N C) (c : C) (cap : ℕ) where
  -- values that fit as parts fit one by one
  pub each_fits : (xs : List (Abs W N)) → PartsFit B c cap (parts xs) → All (Fits B c cap) xs
  each_fits [] h = All-nil (Fits B c cap)
  each_fits (x ∷ xs) h = All-cons (Fits B c cap) x xs h.0 (each_fits xs h.1)

module _ {X W N C : Type 0} (B : Algebra W N C) (laws : Laws W N C B) (cap : ℕ) (capacity : cap ≡ cond B.joins 256 (2 ^ 32)) (s : Setting X W N C) where
  -- what an evaluation needs follows from what is asked of callers
  pub ready_by : MayEvaluate B cap s → IsReady B cap s (spec_of s) (calls_of B cap s)
  ready_by may =
      let fits = room B cap capacity in
      let right = answers_are_right B laws (spec_of s) s.ctx.now cap s.at s.policy may.accepted fits may.has_turn may.joins in
      may_evaluate B laws cap s (calls_of B cap s) may.accepted may.code_is fits may.has_turn may.joins right

  -- a memo that is right stands where it is counted from
  pub stands_by : (es : List (Remembered W N)) (steps : ℕ) → IsRight B cap s es → Stands (calls_of B cap s) (length es) steps es steps
  stands_by es steps h = record { true_of = h.true_of; distinct = h.distinct; counted = omega arith }

-- a call that is not kept: its own reads come behind those before
module _ (X W N C : Type 0) where
  pub alone_failed : (er : EvalError) (l own : List Seen) (gave answer : Answer (Abs W N)) → gave ≡ answer → Gives (abs {X = X} {W = W} {N = N} {C = C}) (Err er) own gave → Gives (abs {X = X} {W = W} {N = N} {C = C}) (Err er) l (behind l answer)
  alone_failed er l own gave answer same h = passed (abs {X = X} {W = W} {N = N} {C = C}) (abs {X = X} {W = W} {N = N} {C = C}) er own l gave (behind l answer) h (λ i e. ap (behind l) (sym same ∙ e))

  pub alone_gave : (v w : Option (AbstractValue X W N C)) (l own n : List Seen) (gave answer : Answer (Abs W N)) → gave ≡ answer → gave ≡ gives (option_map abs v) own → w ≡ v → n ≡ l ++ own → behind l answer ≡ gives (option_map abs w) n
  alone_gave v w l own n gave answer same h is log = ap (behind l) (sym same ∙ h) ∙ ap (λ w. gives (option_map abs w) (l ++ own)) (sym is) ∙ ap (λ n. gives (option_map abs w) n) (sym log)

-- what is held where types are right
pub held_by : {A E T : Type 0} (L H : Type 0) (r : Result A E) → T → IfOk r (λ _. T → H) → IfOk r (λ _. L → H)
held_by L H (Ok v) typed h = λ _. h typed
held_by L H (Err x) typed h = tt

-- a function that is not there has no value
module _ {W N C : Type 0} (B : Algebra W N C) (c : C) (cap : ℕ) (spec : Spec) (a : ℕ) (policy : Policy) where
  pub no_function : (f : ℕ) (ps : List (Abs W N)) (l : List Seen) → length spec.funs ≤ f → behind l (answers B c cap spec a policy f ps) ≡ gives None l
  no_function f ps l past = let no : ltb f (length spec.funs) ≡ false = le-ltb f (length spec.funs) past in rw no (ap (λ z. gives None z) (append-nil l))

-- the functions of the specification are those of the code's
module _ {X W N C : Type 0} (s : Setting X W N C) where
  funs_are : length (spec_of s).funs ≡ s.spec.now.funs.len
  funs_are = length-map s.spec.now.funs.items fun_of ∙ sym s.spec.now.funs.ok.0

  pub not_there : (spec : Spec) (len f : ℕ) → spec ≡ spec_of s → len ≡ s.spec.now.funs.len → len ≤ f → length spec.funs ≤ f
  not_there spec len f is long past = let k = ap (λ z. length z.funs) is in let m = funs_are in omega (arith, k, m, long, past)

  pub is_there : (len f : ℕ) → len ≡ s.spec.now.funs.len → f < len → f < length (spec_of s).funs
  is_there len f long within = let m = funs_are in omega (arith, m, long, within)

  pub never_there : {H : Type 0} (len f : ℕ) → len ≡ s.spec.now.funs.len → len ≤ f → f < length (spec_of s).funs → H
  never_there len f long past h = let m = funs_are in absurd (omega (arith, m, long, past, h))
