-- Values that fit, of arguments, leaves and calls.
use Rattle.std.proofs.Common.{◌≡◌, ◌<◌, ℕ, Bool, true, false, List, [], ◌∷◌, map, length, Option, Some, None, option_map, refl, sym, subst}
use Rattle.std.specs.Prelude.{All, IfSome}
use Rattle.std.proofs.lemmas.List.Elements.{All-nil, All-cons, All-head, All-tail}
use Rattle.base_trait.specs.Algebra.{Algebra}
use Rattle.spec_ir.specs.Specification.{Spec}
use Rattle.semantics_values.specs.Types.{environment_of}
use Rattle.abstract_value_laws.specs.Abs.{Abs, parts as parts_of}
use Rattle.abstract_value_laws.specs.Fits.{Fits, PartsFit}
use Rattle.abstract_value_laws.specs.Types.{have_types}
use Rattle.support_tail_fixpoint.specs.Answer.{IfGives, Yield, out_of}
use Rattle.abstract_semantics.specs.Answers.{Answer}
use Rattle.abstract_semantics.specs.Calls.{AreArguments}
use Rattle.abstract_semantics.specs.Terms.{GroupArgs, params_of}
use Rattle.eval_memo.specs.declared.setting.Setting.{Setting}
use Rattle.eval_memo.specs.Ready.{IsReady, YieldFits}
use Rattle.eval_memo.specs.Settings.{spec_of}

pub all_viewed : {V A : Type 0} (P : A → Type 0) (view : V → A) (xs : List V) → All P (map view xs) → All (λ x. P (view x)) xs
all_viewed P view [] h = All-nil (λ x. P (view x))
all_viewed P view (x ∷ xs) h = All-cons (λ x. P (view x)) x xs (All-head P (view x) (map view xs) h) (all_viewed P view xs (All-tail P (view x) (map view xs) h))

module _ {X W N C : Type 0} (B : Algebra W N C) (cap : ℕ) (s : Setting X W N C) where
  fit_all : (ps : List (Abs W N)) → All (Fits B s.ctx.now cap) ps → PartsFit B s.ctx.now cap (parts_of ps)
  fit_all [] h = tt
  fit_all (p ∷ ps) h = (All-head (Fits B s.ctx.now cap) p ps h, fit_all ps (All-tail (Fits B s.ctx.now cap) p ps h))

  pub are_arguments : (f : ℕ) (ps : List (Abs W N)) → All (Fits B s.ctx.now cap) ps → have_types (environment_of (spec_of s)) (parts_of ps) (params_of (spec_of s) f) ≡ true → AreArguments B s.ctx.now cap (spec_of s) f ps
  are_arguments f ps h e = record { typed = e; fit = fit_all ps h }

  -- the value of a leaf fits
  pub leaf_fits : {V : Type 0} (view : V → Yield (GroupArgs W N) (Abs W N)) (g : ℕ) (o : Option V) (v : Abs W N) → IfSome o (λ y. YieldFits B cap s g (view y)) → out_of (option_map view o) ≡ Some v → Fits B s.ctx.now cap v
  leaf_fits view g None v h e = absurd cc
  leaf_fits view g (Some y) v h e = subst (λ o. IfSome o (Fits B s.ctx.now cap)) e h.out

  module _ (spec : Spec) (on : ℕ → List (Abs W N) → Answer (Abs W N)) where
    -- what a call gives fits
    pub call_fits : IsReady B cap s spec on → (f : ℕ) (ps : List (Abs W N)) → f < length (spec_of s).funs → All (Fits B s.ctx.now cap) ps → IfGives (on f ps) (Fits B s.ctx.now cap)
    call_fits ready f ps there h = at (have_types (environment_of (spec_of s)) (parts_of ps) (params_of (spec_of s) f)) refl
      where
        at : (b : Bool) → have_types (environment_of (spec_of s)) (parts_of ps) (params_of (spec_of s) f) ≡ b → IfGives (on f ps) (Fits B s.ctx.now cap)
        at true e = ready.results f ps there (are_arguments f ps h e)
        at false e = subst (λ a. IfGives a (Fits B s.ctx.now cap)) (sym (ready.right.untyped f ps e)) tt
