-- What the turns of an activation come to.
use Rattle.std.proofs.Common.{◌≡◌, Bool, false, ◌<◌, ℕ, ◌∙◌, List, [], ◌∷◌, Option, Some, None, Result, Ok, Err, option_map, length, refl, sym, ap, subst}
use Rattle.std.specs.Prelude.{is_some}
use Rattle.base_trait.specs.Algebra.{Algebra}
use Rattle.base_trait.specs.Laws.{Laws}
use Rattle.base_trait.specs.Uses.{Seen}
use Rattle.spec_ir.specs.Specification.{Spec}
use Rattle.abstract_value_laws.specs.Abs.{Abs}
use Rattle.abstract_value_laws.specs.Fits.{Fits}
use Rattle.abstract_value.specs.View.{abs}
use Rattle.abstract_value.specs.declared.value.AbstractValue.{AbstractValue}
use Rattle.support_tail_fixpoint.specs.Answer.{IfGives, gives, next_of, out_of}
use Rattle.support_tail_fixpoint.specs.Groups.{only}
use Rattle.abstract_semantics.specs.Answers.{Answer}
use Rattle.abstract_semantics.specs.Calls.{AreArguments}
use Rattle.abstract_semantics.specs.Terms.{GroupArgs}
use Rattle.eval_memo.specs.declared.error.EvalError.{EvalError}
use Rattle.eval_memo.specs.declared.error.EvalError.TheVariants as e
use Rattle.eval_memo.specs.declared.setting.Setting.{Setting}
use Rattle.eval_memo.specs.Given.{Gives}
use Rattle.eval_memo.specs.Memos.{Remembered, Stands}
use Rattle.eval_memo.specs.Ready.{AreGroupArgs, IsReady}
use Rattle.eval_memo.specs.Settings.{given_bodies, group_of, group_turn, spec_of}
use Rattle.eval_activation.specs.Activities.{After, Goes, IsAfter, Taken, due}
use Rattle.eval_activation.specs.Views.{yield}
use Rattle.eval_activation.specs.declared.activity.Activity.{Activity}
use Rattle.eval_activation.specs.declared.activity.ActivationStep.{ActivationStep}
use Rattle.eval_activation.specs.declared.activity.ActivationStep.TheVariants.{Again, Done, OutOfFuel}
use Rattle.eval_activation.specs.declared.turn_yield.TurnYield.{TurnYield}
use Rattle.evaluator.specs.Runs.{HaveGrown, Runs}
use Rattle.eval_memo.proofs.Answering.{gave_fits, passed}
use Rattle.eval_activation.proofs.Going.{first_done, first_failed, goes_failed, goes_fits}
use Rattle.evaluator.proofs.Growing.{grown_then, no_more}
use Rattle.evaluator.proofs.Turning.{only_turn}

module _ {X Y W N C : Type 0} (B : Algebra W N C) (cap : ℕ) (s : Setting X W N C) (on : ℕ → List (Abs W N) → Answer (Abs W N)) (before ticked f : ℕ) where
  -- The turn that was due gave this, and what is left comes to what the call gives.
  pub record Active (args : List (Abs W N)) (a : Activity X Y W N C) (given : Option (TurnYield X W N C)) (l m : List Seen) (es fs : List (Remembered W N)) (steps : ℕ) : Type 0 where
    pub from : List Seen
    pub goes : Goes B cap s on f args a from
    pub gave : group_turn B cap on s (group_of s f) (due a) from ≡ gives (option_map yield given) m
    pub memo : Stands on before ticked fs steps
    pub grown : HaveGrown l m es fs

-- ---- the first turn
none_asked : {A : Type 0} (o : Option A) → is_some o ≡ false → o ≡ None
none_asked None h = refl
none_asked (Some x) h = absurd cc

module _ (X : Type 0) {W N C : Type 0} (B : Algebra W N C) (cap : ℕ) (s : Setting X W N C) (on : ℕ → List (Abs W N) → Answer (Abs W N)) (f g : ℕ) (args : List (Abs W N)) (l m : List Seen) where
  -- what its body gives it gives
  first_so : (r : Result (Option (TurnYield X W N C)) EvalError) → l ≡ [] → g ≡ group_of s f → Gives (yield {X = X} {W = W} {N = N} {C = C}) r m (given_bodies B cap on s g f None (Some args ∷ []) l) → Gives (yield {X = X} {W = W} {N = N} {C = C}) r m (group_turn B cap on s (group_of s f) (only f args) [])
  first_so r empty group_is h =
      subst (λ g. Gives (yield {X = X} {W = W} {N = N} {C = C}) r m (group_turn B cap on s g (only f args) [])) group_is
      (subst (λ z. Gives (yield {X = X} {W = W} {N = N} {C = C}) r m z) (sym (only_turn B cap on s g f args [])) (subst (λ l. Gives (yield {X = X} {W = W} {N = N} {C = C}) r m (given_bodies B cap on s g f None (Some args ∷ []) l)) empty h))

module _ {X W N C : Type 0} {B : Algebra W N C} {cap : ℕ} {s : Setting X W N C} {spec : Spec} {on : ℕ → List (Abs W N) → Answer (Abs W N)} {before ticked f : ℕ} {args : List (Abs W N)} {l m : List Seen} {es fs : List (Remembered W N)} {steps g : ℕ} {Q : TurnYield X W N C → Type 0} (laws : Laws W N C B) (ready : IsReady B cap s spec on) (there : f < length (spec_of s).funs) (are : AreArguments B s.ctx.now cap (spec_of s) f args) (empty : l ≡ []) (group_is : g ≡ group_of s f) where
  pub begin_failed : {P : AbstractValue X W N C → Type 0} {er : EvalError} → Runs B cap s spec on before ticked yield Q (Err er) l m (given_bodies B cap on s g f None (Some args ∷ []) l) [] [] es fs steps
      → Runs B cap s spec on before ticked abs P (Err er) l m (on f args) [] [] es fs steps
  begin_failed {P} {er} runs = record {
    value = passed (yield {X = X} {W = W} {N = N} {C = C}) (abs {X = X} {W = W} {N = N} {C = C}) er m m (group_turn B cap on s (group_of s f) (only f args) []) (on f args) (first_so X B cap s on f g args l m (Err er) empty group_is runs.value) (first_failed B laws cap s spec on ready f there args are);
    fits = tt;
    env = tt;
    memo = runs.memo;
    grown = runs.grown;
  }

  module _ {y : Option (TurnYield X W N C)} (runs : Runs B cap s spec on before ticked yield Q (Ok y) l m (given_bodies B cap on s g f None (Some args ∷ []) l) [] [] es fs steps) where
    pub begin_gave : group_turn B cap on s (group_of s f) (only f args) [] ≡ gives (option_map yield y) m
    begin_gave = first_so X B cap s on f g args l m (Ok y) empty group_is runs.value

    -- it asks for no other
    pub begin_done : (v : Option (AbstractValue X W N C)) (asked : Bool) → asked ≡ is_some (next_of (option_map yield y)) → asked ≡ false → option_map abs v ≡ out_of (option_map yield y) → Runs B cap s spec on before ticked abs (λ v. Fits B s.ctx.now cap (abs v)) (Ok v) l m (on f args) [] [] es fs steps
    begin_done v asked asks none is =
        let gave : on f args ≡ gives (option_map abs v) m = first_done B laws cap s spec on ready f there args are (option_map yield y) m begin_gave (none_asked (next_of (option_map yield y)) (sym asks ∙ none)) ∙ ap (λ o. gives o m) (sym is) in
        record { value = gave; fits = gave_fits abs (Fits B s.ctx.now cap) v m (on f args) gave (ready.results f args there are); env = refl; memo = runs.memo; grown = runs.grown }

    -- or it does
    pub begin_goes_on : {r : Result (Option (AbstractValue X W N C)) EvalError} {n : List Seen} {gs : List (Remembered W N)} {high : ℕ} → Runs B cap s spec on before ticked abs (λ v. Fits B s.ctx.now cap (abs v)) r m n (on f args) [] [] fs gs high
        → Runs B cap s spec on before ticked abs (λ v. Fits B s.ctx.now cap (abs v)) r l n (on f args) [] [] es gs high
    begin_goes_on later = record { value = later.value; fits = later.fits; env = later.env; memo = later.memo; grown = grown_then runs.grown later.grown }

-- ---- those behind it
module _ {X Y W N C : Type 0} {B : Algebra W N C} {cap : ℕ} {s : Setting X W N C} {on : ℕ → List (Abs W N) → Answer (Abs W N)} {before ticked f : ℕ} where
  pub begun : {args : List (Abs W N)} {a : Activity X Y W N C} {y : Option (TurnYield X W N C)} {l : List Seen} {es : List (Remembered W N)} {steps : ℕ} → Goes B cap s on f args a [] → due a ≡ only f args
      → group_turn B cap on s (group_of s f) (only f args) [] ≡ gives (option_map yield y) l → Stands on before ticked es steps → Active B cap s on before ticked f args a y l l es es steps
  begun {args} {a} {y} {l} {es} goes due_is gave stands = record { from = []; goes = goes; gave = ap (λ d. group_turn B cap on s (group_of s f) d []) due_is ∙ gave; memo = stands; grown = no_more l es }

module _ {X Y W N C : Type 0} {B : Algebra W N C} {cap : ℕ} {s : Setting X W N C} {on : ℕ → List (Abs W N) → Answer (Abs W N)} {before ticked f : ℕ} {args : List (Abs W N)} {a : Activity X Y W N C} {given : Option (TurnYield X W N C)} {l m : List Seen} {es fs : List (Remembered W N)} {steps : ℕ} (c : Active B cap s on before ticked f args a given l m es fs steps) where
  pub turn_taken : Taken B cap s on f a (option_map yield given)
  turn_taken = record { args = args; before = c.from; after = m; goes = c.goes; gave = c.gave }

  module _ (b : Activity X Y W N C) (step : ActivationStep X W N C) (after : After B cap s on f a (option_map yield given) step b) where
    after_so : (x : ActivationStep X W N C) → step ≡ x → IsAfter B cap s on f args x b m
    after_so x e = subst (λ x. IsAfter B cap s on f args x b m) e (after args c.from m c.goes c.gave)

    pub activation_done : {spec : Spec} (v : Option (AbstractValue X W N C)) → step ≡ Done v → IfGives (on f args) (Fits B s.ctx.now cap)
        → Runs B cap s spec on before ticked abs (λ v. Fits B s.ctx.now cap (abs v)) (Ok v) l m (on f args) [] [] es fs steps
    activation_done v e fits =
        let is = after_so (Done v) e in
        record { value = is; fits = gave_fits abs (Fits B s.ctx.now cap) v m (on f args) is fits; env = refl; memo = c.memo; grown = c.grown }

    pub activation_deep : {spec : Spec} {P : AbstractValue X W N C → Type 0} → step ≡ OutOfFuel → Runs B cap s spec on before ticked abs P (Err (e.OutOfFuel f)) l m (on f args) [] [] es fs steps
    activation_deep {spec} {P} is_deep = record { value = after_so OutOfFuel is_deep; fits = tt; env = tt; memo = c.memo; grown = c.grown }

    -- another turn is due
    module _ (again : step ≡ Again) where
      pub goes_again : Goes B cap s on f args b m
      goes_again = after_so Again again

      module _ {g : ℕ} {due_now : GroupArgs W N} (group_is : g ≡ group_of s f) (is : due_now ≡ due b) where
        -- its arguments are such as the group's functions have
        pub due_fit : {spec : Spec} → Laws W N C B → IsReady B cap s spec on → f < length (spec_of s).funs → AreGroupArgs B cap s g due_now
        due_fit {spec} laws ready there =
            subst (λ g. AreGroupArgs B cap s g due_now) (sym group_is) (subst (AreGroupArgs B cap s (group_of s f)) (sym is) (goes_fits B laws cap s spec on ready f there args b m goes_again))

        turn_so : (n : List Seen) (r : Result (Option (TurnYield X W N C)) EvalError) → Gives (yield {X = X} {W = W} {N = N} {C = C}) r n (group_turn B cap on s g due_now m) → Gives (yield {X = X} {W = W} {N = N} {C = C}) r n (group_turn B cap on s (group_of s f) (due b) m)
        turn_so n r h = subst (λ d. Gives (yield {X = X} {W = W} {N = N} {C = C}) r n (group_turn B cap on s (group_of s f) d m)) is (subst (λ g. Gives (yield {X = X} {W = W} {N = N} {C = C}) r n (group_turn B cap on s g due_now m)) group_is h)

        module _ {spec : Spec} {n : List Seen} {gs : List (Remembered W N)} {high : ℕ} {Q : TurnYield X W N C → Type 0} where
          pub turn_failed : {P : AbstractValue X W N C → Type 0} {er : EvalError} → Laws W N C B → IsReady B cap s spec on → f < length (spec_of s).funs
              → Runs B cap s spec on before ticked yield Q (Err er) m n (group_turn B cap on s g due_now m) [] [] fs gs high → Runs B cap s spec on before ticked abs P (Err er) l n (on f args) [] [] es gs high
          turn_failed {P} {er} laws ready there runs = record {
            value = passed (yield {X = X} {W = W} {N = N} {C = C}) (abs {X = X} {W = W} {N = N} {C = C}) er n n (group_turn B cap on s (group_of s f) (due b) m) (on f args) (turn_so n (Err er) runs.value) (goes_failed B laws cap s spec on ready f there args b m goes_again);
            fits = tt;
            env = tt;
            memo = runs.memo;
            grown = grown_then c.grown runs.grown;
          }

          pub still_active : {y : Option (TurnYield X W N C)} → Runs B cap s spec on before ticked yield Q (Ok y) m n (group_turn B cap on s g due_now m) [] [] fs gs high → Active B cap s on before ticked f args b y l n es gs high
          still_active {y} runs = record { from = m; goes = goes_again; gave = turn_so n (Ok y) runs.value; memo = runs.memo; grown = grown_then c.grown runs.grown }
