-- What calls give, by the memo or by an activation.
use Rattle.std.proofs.Common.{◌≡◌, ◌∙◌, ◌<◌, ◌++◌, ℕ, true, List, [], Option, Some, Result, Ok, Err, option_map, length, map, refl, sym, ap, subst}
use Rattle.std.specs.Prelude.{All, IfSome}
use Rattle.base_trait.specs.Algebra.{Algebra}
use Rattle.base_trait.specs.Lists.{IsGrown}
use Rattle.base_trait.specs.Uses.{Seen}
use Rattle.spec_ir.specs.Specification.{Spec}
use Rattle.semantics_values.specs.Types.{environment_of}
use Rattle.abstract_value_laws.specs.Abs.{Abs, parts as parts_of}
use Rattle.abstract_value_laws.specs.Fits.{Fits}
use Rattle.abstract_value_laws.specs.Types.{have_types}
use Rattle.abstract_value.specs.View.{abs}
use Rattle.abstract_value.specs.declared.value.AbstractValue.{AbstractValue}
use Rattle.support_tail_fixpoint.specs.Answer.{gives}
use Rattle.abstract_semantics.specs.Answers.{Answer, behind}
use Rattle.abstract_semantics.specs.Terms.{params_of}
use Rattle.eval_memo.specs.declared.error.EvalError.{EvalError}
use Rattle.eval_memo.specs.declared.error.EvalError.TheVariants as e
use Rattle.eval_memo.specs.declared.setting.Setting.{Setting}
use Rattle.eval_memo.specs.Given.{Gives}
use Rattle.eval_memo.specs.Memos.{Holds, IsNew, Keeps, Remembered, Stands, called}
use Rattle.eval_memo.specs.Ready.{IsReady}
use Rattle.eval_memo.specs.Settings.{spec_of}
use Rattle.evaluator.specs.Runs.{Runs, RunsCall}
use Rattle.eval_memo.proofs.Answering.{behind_is, gave_fits, passed}
use Rattle.eval_memo.proofs.Growth.{grown_on, grown_same}
use Rattle.eval_memo.proofs.Holding.{keeps_grown, kept_holds, new_not_held}
use Rattle.evaluator.proofs.Fitting.{call_fits}
use Rattle.evaluator.proofs.Growing.{log_alone}

module _ {X W N C : Type 0} {B : Algebra W N C} {cap : ℕ} {s : Setting X W N C} {spec : Spec} {on : ℕ → List (Abs W N) → Answer (Abs W N)} {before ticked f : ℕ} {l : List Seen} {es : List (Remembered W N)} where
  -- a call that is held
  pub call_recalled : {args again : List (AbstractValue X W N C)} {r : Option (Option (AbstractValue X W N C))} {v : Option (AbstractValue X W N C)} {m : List Seen} {steps : ℕ}
      → IsReady B cap s spec on → f < length (spec_of s).funs → All (Fits B s.ctx.now cap) (map abs args) → Stands on before ticked es steps → again ≡ args → r ≡ Some v
      → IfSome r (λ v. behind l (on f (map abs again)) ≡ gives (option_map abs v) m) → IfSome r (λ _. have_types (environment_of (spec_of s)) (parts_of (map abs again)) (params_of (spec_of s) f) ≡ true → Holds f (map abs again) es) → IsGrown l m
      → RunsCall B cap s spec on before ticked f (map abs args) (Ok v) l m es es steps
  call_recalled {args} {again} {r} {v} {m} ready there fit stands same some value held grown =
      let is = subst (λ xs. behind l (on f (map abs xs)) ≡ gives (option_map abs v) m) same (subst (λ r. IfSome r (λ v. behind l (on f (map abs again)) ≡ gives (option_map abs v) m)) some value) in
      record {
        runs = record {
          value = is;
          fits = behind_is abs (Fits B s.ctx.now cap) (Ok v) l m (on f (map abs args)) is (call_fits B cap s spec on ready f (map abs args) there fit);
          env = refl;
          memo = stands;
          grown = log_alone l m es grown;
        };
        held = subst (λ xs. have_types (environment_of (spec_of s)) (parts_of (map abs xs)) (params_of (spec_of s) f) ≡ true → Holds f (map abs xs) es) same
            (subst (λ r. IfSome r (λ _. have_types (environment_of (spec_of s)) (parts_of (map abs again)) (params_of (spec_of s) f) ≡ true → Holds f (map abs again) es)) some held);
        known = λ _. refl;
      }

  -- a result that is known to be such
  pub ends_by_call : {ps : List (Abs W N)} {m : List Seen} {fs : List (Remembered W N)} {steps : ℕ} {r q : Result (Option (AbstractValue X W N C)) EvalError} → r ≡ q → RunsCall B cap s spec on before ticked f ps q l m es fs steps → RunsCall B cap s spec on before ticked f ps r l m es fs steps
  ends_by_call {ps} {m} {fs} {steps} is runs = subst (λ r. RunsCall B cap s spec on before ticked f ps r l m es fs steps) (sym is) runs

  -- memory has run out before the activation
  pub call_without_memory : {ps : List (Abs W N)} {m : List Seen} {steps : ℕ} → Stands on before ticked es steps → IsGrown l m → RunsCall B cap s spec on before ticked f ps (Err e.NoMemory) l m es es steps
  call_without_memory {ps} {m} stands grown = record {
    runs = record { value = tt; fits = tt; env = tt; memo = stands; grown = log_alone l m es grown };
    held = tt;
    known = λ _. refl;
  }

  module _ {again ps : List (Abs W N)} {m own own0 : List Seen} {fs : List (Remembered W N)} {P : AbstractValue X W N C → Type 0} {high : ℕ} (same : again ≡ ps) (new : IsNew f ps es) (grown : IsGrown l m) where
    -- the activation has an error
    pub call_failed : {er : EvalError} → Runs B cap s spec on before ticked abs P (Err er) own0 own (on f again) [] [] es fs high → RunsCall B cap s spec on before ticked f ps (Err er) l m es fs high
    call_failed {er} told = record {
      runs = record {
        value = passed (abs {X = X} {W = W} {N = N} {C = C}) (abs {X = X} {W = W} {N = N} {C = C}) er own m (on f ps) (behind l (on f ps)) (subst (λ xs. Gives (abs {X = X} {W = W} {N = N} {C = C}) (Err er) own (on f xs)) same told.value) (λ i e. ap (behind l) e);
        fits = tt;
        env = tt;
        memo = told.memo;
        grown = record { log = grown; memo = told.grown.memo };
      };
      held = tt;
      known = λ h. absurd (new_not_held f ps es new h);
    }

    -- its value is kept
    module _ {v : Option (AbstractValue X W N C)} {n : List Seen} {gs : List (Remembered W N)} {last : ℕ} (told : Runs B cap s spec on before ticked abs P (Ok v) own0 own (on f again) [] [] es fs high) (stands : Stands on before ticked gs last) (more : IsGrown m n) where
      -- or memory runs out where it is kept
      pub call_not_kept : gs ≡ fs → RunsCall B cap s spec on before ticked f ps (Err e.NoMemory) l n es gs last
      call_not_kept stays = record {
        runs = record { value = tt; fits = tt; env = tt; memo = stands; grown = record { log = grown_on l m n grown more; memo = grown_on es fs gs told.grown.memo (grown_same fs gs stays) } };
        held = tt;
        known = λ h. absurd (new_not_held f ps es new h);
      }

      pub call_kept : {w : Option (AbstractValue X W N C)} → IsReady B cap s spec on → f < length (spec_of s).funs → All (Fits B s.ctx.now cap) ps → m ≡ l → option_map abs w ≡ option_map abs v → n ≡ m ++ own → Keeps fs (called f ps (option_map abs v) own) gs
          → RunsCall B cap s spec on before ticked f ps (Ok w) l n es gs last
      call_kept {w} ready there fit stays is log kept =
          let w_gave : on f ps ≡ gives (option_map abs w) own = subst (λ xs. on f xs ≡ gives (option_map abs v) own) same told.value ∙ ap (λ o. gives o own) (sym is) in
          record {
            runs = record {
              value = ap (behind l) w_gave ∙ ap (λ z. gives (option_map abs w) z) (sym (log ∙ ap (λ z. z ++ own) stays));
              fits = gave_fits abs (Fits B s.ctx.now cap) w own (on f ps) w_gave (call_fits B cap s spec on ready f ps there fit);
              env = refl;
              memo = stands;
              grown = record { log = grown_on l m n grown more; memo = grown_on es fs gs told.grown.memo (keeps_grown fs (called f ps (option_map abs v) own) gs kept) };
            };
            held = λ _. kept_holds fs (called f ps (option_map abs v) own) gs kept;
            known = λ h. absurd (new_not_held f ps es new h);
          }
