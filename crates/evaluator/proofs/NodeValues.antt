-- The values of nodes that go on with no arm, and of calls on slots.
use Rattle.std.proofs.Common.{◌≡◌, ◌∙◌, ◌≤◌, ℕ, List, [], Option, Some, None, Result, Ok, Err, option_map, length, map, slice_get, refl, sym, ap, subst, append-nil}
use Rattle.std.specs.Prelude.{IfSome, OnOk}
use Rattle.base_trait.specs.Algebra.{Algebra}
use Rattle.base_trait.specs.Lists.{IsGrown}
use Rattle.base_trait.specs.Uses.{Seen}
use Rattle.spec_ir.specs.Specification.{Spec}
use Rattle.semantics_laws.specs.Places.{all_of}
use Rattle.abstract_value_laws.specs.Abs.{Abs}
use Rattle.abstract_value_laws.specs.Fits.{Fits}
use Rattle.abstract_value.specs.View.{abs}
use Rattle.abstract_value.specs.declared.value.AbstractValue.{AbstractValue}
use Rattle.support_tail_fixpoint.specs.Answer.{gives}
use Rattle.abstract_semantics.specs.Answers.{Answer, behind}
use Rattle.eval_code.specs.Code as code
use Rattle.eval_code.specs.Code.{Node}
use Rattle.eval_memo.specs.declared.error.EvalError.{EvalError}
use Rattle.eval_memo.specs.declared.setting.Setting.{Setting}
use Rattle.eval_memo.specs.Given.{Gives}
use Rattle.eval_memo.specs.Memos.{Remembered, Stands}
use Rattle.eval_memo.specs.Ready.{IsReady}
use Rattle.eval_memo.specs.Settings.{spec_of}
use Rattle.eval_nodes.specs.Plain.{IsPlain, call_value, plain_value, read_value}
use Rattle.eval_nodes.proofs.Plainly.{call_none, call_some, plain_is, read_is}
use Rattle.evaluator.specs.Arms.{value_of_node}
use Rattle.evaluator.specs.Runs.{Runs, RunsCall}
use Rattle.evaluator.proofs.Growing.{log_alone, no_more}

pub nothing_changed : {V : Type 0} {A : Type 0} (r : Result V EvalError) (xs : List A) → OnOk r (xs ≡ xs)
nothing_changed (Ok v) xs = refl
nothing_changed (Err x) xs = tt

module _ {X W N C : Type 0} {B : Algebra W N C} {cap : ℕ} {s : Setting X W N C} {spec : Spec} {on : ℕ → List (Abs W N) → Answer (Abs W N)} {before ticked : ℕ} {old : List (AbstractValue X W N C)} {l : List Seen} {es : List (Remembered W N)} {steps : ℕ} where
  -- a node that is plain
  pub plain_node : (x : Node) (v : Option (AbstractValue X W N C)) → IsPlain x → option_map abs v ≡ plain_value B s.ctx.now cap (spec_of s) s.at (map abs old) x → IfSome v (λ v. Fits B s.ctx.now cap (abs v)) → Stands on before ticked es steps
      → Runs B cap s spec on before ticked abs (λ v. Fits B s.ctx.now cap (abs v)) (Ok v) l l (value_of_node B cap on s (map abs old) x l) old old es es steps
  plain_node x v plain is fits stands = record {
    value = plain_is B s.ctx.now cap (spec_of s) s.at on (map abs old) x plain l ∙ ap (λ o. gives o l) (sym is);
    fits = fits;
    env = refl;
    memo = stands;
    grown = no_more l es;
  }

  -- one that reads a map
  pub read_node : {m : List Seen} (x : Node) (k a b : ℕ) (v : Option (AbstractValue X W N C)) → x ≡ code.get k a b → read_value B s.ctx.now k (slice_get (map abs old) a) (slice_get (map abs old) b) l ≡ gives (option_map abs v) m → IfSome v (λ v. Fits B s.ctx.now cap (abs v)) → IsGrown l m → Stands on before ticked es steps
      → Runs B cap s spec on before ticked abs (λ v. Fits B s.ctx.now cap (abs v)) (Ok v) l m (value_of_node B cap on s (map abs old) x l) old old es es steps
  read_node {m} x k a b v is gave fits grown stands = record {
    value = ap (λ z. value_of_node B cap on s (map abs old) z l) is ∙ read_is B s.ctx.now cap (spec_of s) s.at on (map abs old) k a b l ∙ gave;
    fits = fits;
    env = refl;
    memo = stands;
    grown = log_alone l m es grown;
  }

  -- one that calls
  pub call_node : {m : List Seen} {fs : List (Remembered W N)} {P : AbstractValue X W N C → Type 0} {r : Result (Option (AbstractValue X W N C)) EvalError} (x : Node) (f : ℕ) (ks : List ℕ) → x ≡ code.call f ks
      → Runs B cap s spec on before ticked abs P r l m (call_value on (map abs old) f ks l) [] [] es fs steps → Runs B cap s spec on before ticked abs P r l m (value_of_node B cap on s (map abs old) x l) old old es fs steps
  call_node {m} {fs} {P} {r} x f ks is runs = record {
    value = subst (λ z. Gives (abs {X = X} {W = W} {N = N} {C = C}) r m (value_of_node B cap on s (map abs old) z l)) (sym is) runs.value;
    fits = runs.fits;
    env = nothing_changed r old;
    memo = runs.memo;
    grown = runs.grown;
  }

-- ---- calls on slots
module _ {X W N C : Type 0} {B : Algebra W N C} {cap : ℕ} {s : Setting X W N C} {spec : Spec} {on : ℕ → List (Abs W N) → Answer (Abs W N)} {before ticked : ℕ} {l : List Seen} {es : List (Remembered W N)} {steps : ℕ} (frame : List (Abs W N)) (f : ℕ) (ks : List ℕ) where
  -- of a function that is not there
  pub no_function_there : {P : AbstractValue X W N C → Type 0} → IsReady B cap s spec on → length (spec_of s).funs ≤ f → Stands on before ticked es steps
      → Runs B cap s spec on before ticked abs P (Ok None) l l (call_value on frame f ks l) [] [] es es steps
  no_function_there ready past stands = record { value = at (all_of (slice_get frame) ks) refl; fits = tt; env = refl; memo = stands; grown = no_more l es }
    where
      at : (o : Option (List (Abs W N))) → all_of (slice_get frame) ks ≡ o → call_value on frame f ks l ≡ gives None l
      at None e = call_none on frame f ks l e
      at (Some ps) e = call_some on frame f ks l ps e ∙ ap (behind l) (ready.right.missing f ps past) ∙ ap (λ z. gives None z) (append-nil l)

  -- a slot is not written
  pub no_slot_there : {P : AbstractValue X W N C → Type 0} → all_of (slice_get frame) ks ≡ None → Stands on before ticked es steps
      → Runs B cap s spec on before ticked abs P (Ok None) l l (call_value on frame f ks l) [] [] es es steps
  no_slot_there none stands = record { value = call_none on frame f ks l none; fits = tt; env = refl; memo = stands; grown = no_more l es }

  pub slots_called : {m : List Seen} {fs : List (Remembered W N)} {ps : List (Abs W N)} {r : Result (Option (AbstractValue X W N C)) EvalError} → all_of (slice_get frame) ks ≡ Some ps → RunsCall B cap s spec on before ticked f ps r l m es fs steps
      → Runs B cap s spec on before ticked abs (λ v. Fits B s.ctx.now cap (abs v)) r l m (call_value on frame f ks l) [] [] es fs steps
  slots_called {m} {fs} {ps} {r} some called = record {
    value = subst (λ a. Gives (abs {X = X} {W = W} {N = N} {C = C}) r m a) (sym (call_some on frame f ks l ps some)) called.runs.value;
    fits = called.runs.fits;
    env = called.runs.env;
    memo = called.runs.memo;
    grown = called.runs.grown;
  }
