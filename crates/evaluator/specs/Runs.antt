-- What the evaluator's functions are called with, and how they end.
use Rattle.std.specs.Prelude.{◌≡◌, ⊤, ℕ, Bool, true, false, List, [], Option, Some, None, Result, Ok, Err, All, IfOk, IfSome, OnOk, length, map, take}
use Rattle.base_trait.specs.Algebra.{Algebra}
use Rattle.base_trait.specs.Lists.{IsGrown}
use Rattle.base_trait.specs.Uses.{Seen}
use Rattle.spec_ir.specs.Specification.{Spec}
use Rattle.semantics_values.specs.Types.{environment_of}
use Rattle.abstract_value_laws.specs.Abs.{Abs, parts}
use Rattle.abstract_value_laws.specs.Fits.{Fits}
use Rattle.abstract_value_laws.specs.Types.{have_types}
use Rattle.abstract_value.specs.View.{abs}
use Rattle.abstract_value.specs.declared.value.AbstractValue.{AbstractValue}
use Rattle.support_tail_fixpoint.specs.Answer.{fails, gives}
use Rattle.abstract_semantics.specs.Answers.{Answer, behind}
use Rattle.abstract_semantics.specs.Terms.{params_of}
use Rattle.eval_memo.specs.declared.error.EvalError.{EvalError}
use Rattle.eval_memo.specs.declared.error.EvalError.TheVariants as e
use Rattle.eval_memo.specs.declared.setting.Setting.{Setting}
use Rattle.eval_memo.specs.Given.{Gives}
use Rattle.eval_memo.specs.Memos.{Holds, Remembered, Stands}
use Rattle.eval_memo.specs.Ready.{IsReady}
use Rattle.eval_memo.specs.Settings.{spec_of}

-- A log, once l and now m, and a memo, once es and now fs, have only grown.
pub record HaveGrown {W N : Type 0} (l m : List Seen) (es fs : List (Remembered W N)) : Type 0 where
  pub log : IsGrown l m
  pub memo : IsGrown es fs

-- The answer is this frame, where the result says that it was reached, with the log as it is then. Want of memory is free.
abbrev pub Reaches : {A : Type 0} → Result Bool EvalError → List A → List Seen → Answer (List A) → Type 0
Reaches (Ok true) frame log answer = answer ≡ gives (Some frame) log
Reaches (Ok false) frame log answer = answer ≡ gives None log
Reaches (Err (e.OutOfFuel f)) frame log answer = answer ≡ fails f
Reaches (Err e.NoMemory) frame log answer = ⊤

module _ {X W N C : Type 0} (B : Algebra W N C) (cap : ℕ) (s : Setting X W N C) (spec : Spec) (on : ℕ → List (Abs W N) → Answer (Abs W N)) (before ticked : ℕ) where
  -- Values of variables fit, in a setting that is ready, with a memo that is right.
  pub record MayRun (env : List (AbstractValue X W N C)) (es : List (Remembered W N)) (steps : ℕ) : Type 0 where
    pub ready : IsReady B cap s spec on
    pub fits : All (λ v. Fits B s.ctx.now cap (abs v)) env
    pub memo : Stands on before ticked es steps

  -- The result is the answer, and such as P says; variables are as they were; the memo is right; and the log, once l, and the memo, once es, have only grown.
  pub record Runs {V A : Type 0} (view : V → A) (P : V → Type 0) (r : Result (Option V) EvalError) (l log : List Seen) (answer : Answer A) (old new : List (AbstractValue X W N C)) (es entries : List (Remembered W N)) (steps : ℕ) : Type 0 where
    pub value : Gives view r log answer
    pub fits : IfOk r (λ o. IfSome o P)
    pub env : OnOk r (new ≡ old)
    pub memo : Stands on before ticked entries steps
    pub grown : HaveGrown l log es entries

  -- A call of function f ends so. It is held then, where its arguments have the types of the parameters; and where it was held, the memo is as it was.
  pub record RunsCall (f : ℕ) (args : List (Abs W N)) (r : Result (Option (AbstractValue X W N C)) EvalError) (l log : List Seen) (es entries : List (Remembered W N)) (steps : ℕ) : Type 0 where
    pub runs : Runs abs (λ v. Fits B s.ctx.now cap (abs v)) r l log (behind l (on f args)) [] [] es entries steps
    pub held : IfOk r (λ _. have_types (environment_of (spec_of s)) (parts args) (params_of (spec_of s) f) ≡ true → Holds f args entries)
    pub known : Holds f args es → entries ≡ es

  -- Nodes end so: where all have values these are behind the slots from before, and otherwise there is no frame; and the rest as above.
  pub record RunsNodes (r : Result Bool EvalError) (l log : List Seen) (answer : Answer (List (Abs W N))) (old new : List (AbstractValue X W N C)) (es entries : List (Remembered W N)) (steps : ℕ) : Type 0 where
    pub value : Reaches r (map abs new) log answer
    pub fits : OnOk r (All (λ v. Fits B s.ctx.now cap (abs v)) new)
    pub front : OnOk r (take (length old) new ≡ old)
    pub memo : Stands on before ticked entries steps
    pub grown : HaveGrown l log es entries
