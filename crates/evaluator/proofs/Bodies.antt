-- What the bodies of a group give, one after the other.
use Rattle.std.proofs.Common.{◌≡◌, ◌∙◌, ◌≤◌, ◌<◌, ◌+◌, ℕ, List, [], ◌∷◌, Option, Some, None, Result, Ok, Err, option_map, length, map, drop, get_or, refl, sym, ap, subst}
use Rattle.std.proofs.lemmas.List.{drop_all}
use Rattle.std.specs.Prelude.{IfSome, Vec}
use Rattle.std.specs.declared.alloc.Global.{Global}
use Rattle.base_trait.specs.Algebra.{Algebra}
use Rattle.base_trait.specs.Uses.{Seen}
use Rattle.eval_code.specs.Code.{Tail}
use Rattle.spec_ir.specs.Specification.{Spec}
use Rattle.abstract_value_laws.specs.Abs.{Abs}
use Rattle.abstract_value.specs.View.{abs}
use Rattle.abstract_value.specs.declared.value.AbstractValue.{AbstractValue}
use Rattle.support_tail_fixpoint.specs.Answer.{gives}
use Rattle.support_tail_fixpoint.specs.Groups.{join_some}
use Rattle.abstract_semantics.specs.Answers.{Answer}
use Rattle.eval_memo.specs.declared.error.EvalError.{EvalError}
use Rattle.eval_memo.specs.declared.setting.Setting.{Setting}
use Rattle.eval_memo.specs.Given.{Gives}
use Rattle.eval_memo.specs.Memos.{Remembered, Stands}
use Rattle.eval_memo.specs.Ready.{AreGroupArgs, ArgsOf, EachFrom, YieldFits}
use Rattle.eval_memo.specs.Settings.{body_turn, given_bodies, group_turn, join_yields}
use Rattle.eval_activation.specs.Views.{all_abs, yield}
use Rattle.eval_activation.specs.declared.turn_yield.TurnYield.{TurnYield}
use Rattle.evaluator.specs.Arms.{given_tail}
use Rattle.evaluator.specs.Runs.{HaveGrown, Runs}
use Rattle.eval_memo.proofs.Answering.{passed}
use Rattle.evaluator.proofs.Growing.{grown_then, no_more}
use Rattle.evaluator.proofs.Turning.{bodies_fail, bodies_next, body_fails, body_gives, each_head, each_next}
use Rattle.spec_match_compiler.proofs.Loops.{drop_here}

-- ---- one body
module _ {X W N C : Type 0} (B : Algebra W N C) (cap : ℕ) (on : ℕ → List (Abs W N) → Answer (Abs W N)) (s : Setting X W N C) (g : ℕ) where
  body_so : (vs ws : List (Abs W N)) (x : Tail) (l m : List Seen) → vs ≡ ws → (r : Result (Option (TurnYield X W N C)) EvalError) → Gives (yield {X = X} {W = W} {N = N} {C = C}) r m (given_tail B cap on s vs x l) → Gives (yield {X = X} {W = W} {N = N} {C = C}) r m (given_tail B cap on s ws x l)
  body_so vs ws x l m copied r h = subst (λ vs. Gives (yield {X = X} {W = W} {N = N} {C = C}) r m (given_tail B cap on s vs x l)) copied h

module _ {X W N C : Type 0} {B : Algebra W N C} {cap : ℕ} {s : Setting X W N C} {spec : Spec} {on : ℕ → List (Abs W N) → Answer (Abs W N)} {before ticked : ℕ} {l : List Seen} {es : List (Remembered W N)} (g i : ℕ) where
  -- of a function without arguments
  pub no_body : {o : Option (Vec (AbstractValue X W N C) Global)} {first : Option (TurnYield X W N C)} {steps : ℕ} → o ≡ None → IfSome first (λ y. YieldFits B cap s g (yield y)) → Stands on before ticked es steps
      → Runs B cap s spec on before ticked yield (λ y. YieldFits B cap s g (yield y)) (Ok first) l l (given_bodies B cap on s g i (option_map yield first) (option_map all_abs o ∷ []) l) [] [] es es steps
  no_body {o} {first} is fits stands = record { value = ap (λ o. given_bodies B cap on s g i (option_map yield first) (option_map all_abs o ∷ []) l) is; fits = fits; env = refl; memo = stands; grown = no_more l es }

  -- of one with arguments
  pub some_body : {o : Option (Vec (AbstractValue X W N C) Global)} {P : TurnYield X W N C → Type 0} {r : Result (Option (TurnYield X W N C)) EvalError} {m : List Seen} {fs : List (Remembered W N)} {steps : ℕ} (first : Option (TurnYield X W N C)) (args : Vec (AbstractValue X W N C) Global) (xs : List (AbstractValue X W N C))
      → o ≡ Some args → xs ≡ args.items → Runs B cap s spec on before ticked yield P r l m (given_bodies B cap on s g i (option_map yield first) (Some (map abs xs) ∷ []) l) [] [] es fs steps
      → Runs B cap s spec on before ticked yield P r l m (given_bodies B cap on s g i (option_map yield first) (option_map all_abs o ∷ []) l) [] [] es fs steps
  some_body {o} {P} {r} {m} {fs} {steps} first args xs is same =
      subst (λ a. Runs B cap s spec on before ticked yield P r l m (given_bodies B cap on s g i (option_map yield first) (a ∷ []) l) [] [] es fs steps) (ap (λ zs. Some (map abs zs)) same ∙ sym (ap (option_map all_abs) is))

  module _ {copies new : List (AbstractValue X W N C)} {m : List Seen} {fs : List (Remembered W N)} {steps : ℕ} (first : Option (TurnYield X W N C)) (args : List (AbstractValue X W N C)) (x : Tail) (of_body : (m : List Seen) → body_turn B cap on s g i (map abs args) m ≡ given_tail B cap on s (map abs args) x m) (copied : map abs copies ≡ map abs args) where
    pub body_failed : {P Q : TurnYield X W N C → Type 0} {er : EvalError} → Runs B cap s spec on before ticked yield Q (Err er) l m (given_tail B cap on s (map abs copies) x l) copies new es fs steps
        → Runs B cap s spec on before ticked yield P (Err er) l m (given_bodies B cap on s g i (option_map yield first) (Some (map abs args) ∷ []) l) [] [] es fs steps
    body_failed {P} {Q} {er} runs = record {
      value = passed (yield {X = X} {W = W} {N = N} {C = C}) (yield {X = X} {W = W} {N = N} {C = C}) er m m (given_tail B cap on s (map abs args) x l) (given_bodies B cap on s g i (option_map yield first) (Some (map abs args) ∷ []) l) (body_so B cap on s g (map abs copies) (map abs args) x l m copied (Err er) runs.value)
          (λ j e. body_fails B cap on s g i (option_map yield first) (map abs args) x l of_body j e);
      fits = tt;
      env = tt;
      memo = runs.memo;
      grown = runs.grown;
    }

    pub body_gave : {Q : TurnYield X W N C → Type 0} (y z : Option (TurnYield X W N C)) → Runs B cap s spec on before ticked yield Q (Ok y) l m (given_tail B cap on s (map abs copies) x l) copies new es fs steps
        → option_map yield z ≡ join_some (join_yields B cap on s) (option_map yield first) (option_map yield y) → IfSome z (λ v. YieldFits B cap s g (yield v))
        → Runs B cap s spec on before ticked yield (λ y. YieldFits B cap s g (yield y)) (Ok z) l m (given_bodies B cap on s g i (option_map yield first) (Some (map abs args) ∷ []) l) [] [] es fs steps
    body_gave y z runs joined fits = record {
      value = body_gives B cap on s g i (option_map yield first) (map abs args) x l of_body (option_map yield y) m (body_so B cap on s g (map abs copies) (map abs args) x l m copied (Ok y) runs.value) ∙ ap (λ o. gives o m) (sym joined);
      fits = fits;
      env = refl;
      memo = runs.memo;
      grown = runs.grown;
    }

-- ---- all bodies
module _ {X W N C : Type 0} (B : Algebra W N C) (cap : ℕ) (s : Setting X W N C) (on : ℕ → List (Abs W N) → Answer (Abs W N)) (before ticked g : ℕ) where
  -- What all bodies give is what those left give, joined with what is given so far.
  pub record Turned (args : List (Option (Vec (AbstractValue X W N C) Global))) (i : ℕ) (out : Option (TurnYield X W N C)) (l m : List Seen) (es fs : List (Remembered W N)) (steps : ℕ) : Type 0 where
    pub whole : group_turn B cap on s g (map (option_map all_abs) args) l ≡ given_bodies B cap on s g i (option_map yield out) (map (option_map all_abs) (drop i args)) m
    pub left : EachFrom (ArgsOf B cap s g) i (map (option_map all_abs) (drop i args))
    pub fits : IfSome out (λ y. YieldFits B cap s g (yield y))
    pub memo : Stands on before ticked fs steps
    pub grown : HaveGrown l m es fs

module _ {X W N C : Type 0} {B : Algebra W N C} {cap : ℕ} {s : Setting X W N C} {on : ℕ → List (Abs W N) → Answer (Abs W N)} {before ticked g : ℕ} {args : List (Option (Vec (AbstractValue X W N C) Global))} where
  pub first_body : {l : List Seen} {es : List (Remembered W N)} {steps : ℕ} → AreGroupArgs B cap s g (map (option_map all_abs) args) → Stands on before ticked es steps → Turned B cap s on before ticked g args 0 None l l es es steps
  first_body {l} {es} fits stands = record { whole = refl; left = fits; fits = tt; memo = stands; grown = no_more l es }

  module _ {i : ℕ} {out : Option (TurnYield X W N C)} {l m : List Seen} {es fs : List (Remembered W N)} {steps : ℕ} (c : Turned B cap s on before ticked g args i out l m es fs steps) where
    pub no_body_left : {spec : Spec} → length args ≤ i → Runs B cap s spec on before ticked yield (λ y. YieldFits B cap s g (yield y)) (Ok out) l m (group_turn B cap on s g (map (option_map all_abs) args) l) [] [] es fs steps
    no_body_left past = record { value = c.whole ∙ ap (λ xs. given_bodies B cap on s g i (option_map yield out) (map (option_map all_abs) xs) m) (drop_all i args past); fits = c.fits; env = refl; memo = c.memo; grown = c.grown }

    module _ (o : Option (Vec (AbstractValue X W N C) Global)) (is : o ≡ get_or args i o) (within : i < length args) where
      at_here : group_turn B cap on s g (map (option_map all_abs) args) l ≡ given_bodies B cap on s g i (option_map yield out) (option_map all_abs o ∷ map (option_map all_abs) (drop (i + 1) args)) m
      at_here = c.whole ∙ ap (λ xs. given_bodies B cap on s g i (option_map yield out) (map (option_map all_abs) xs) m) (drop_here args i o is within)

      left_here : EachFrom (ArgsOf B cap s g) i (option_map all_abs o ∷ map (option_map all_abs) (drop (i + 1) args))
      left_here = subst (λ xs. EachFrom (ArgsOf B cap s g) i (map (option_map all_abs) xs)) (drop_here args i o is within) c.left

      pub args_here : IfSome (option_map all_abs o) (ArgsOf B cap s g i)
      args_here = each_head (ArgsOf B cap s g) i (option_map all_abs o) (map (option_map all_abs) (drop (i + 1) args)) left_here

      module _ {spec : Spec} {n : List Seen} {gs : List (Remembered W N)} {high : ℕ} where
        pub next_failed : {P Q : TurnYield X W N C → Type 0} {er : EvalError} → Runs B cap s spec on before ticked yield Q (Err er) m n (given_bodies B cap on s g i (option_map yield out) (option_map all_abs o ∷ []) m) [] [] fs gs high
            → Runs B cap s spec on before ticked yield P (Err er) l n (group_turn B cap on s g (map (option_map all_abs) args) l) [] [] es gs high
        next_failed {P} {Q} {er} runs = record {
          value = passed (yield {X = X} {W = W} {N = N} {C = C}) (yield {X = X} {W = W} {N = N} {C = C}) er n n (given_bodies B cap on s g i (option_map yield out) (option_map all_abs o ∷ []) m) (group_turn B cap on s g (map (option_map all_abs) args) l) runs.value
              (λ k e. at_here ∙ bodies_fail B cap on s g i (option_map yield out) (option_map all_abs o) (map (option_map all_abs) (drop (i + 1) args)) m k e);
          fits = tt;
          env = tt;
          memo = runs.memo;
          grown = grown_then c.grown runs.grown;
        }

        pub next_gave : {y : Option (TurnYield X W N C)} → Runs B cap s spec on before ticked yield (λ y. YieldFits B cap s g (yield y)) (Ok y) m n (given_bodies B cap on s g i (option_map yield out) (option_map all_abs o ∷ []) m) [] [] fs gs high
            → Turned B cap s on before ticked g args (i + 1) y l n es gs high
        next_gave {y} runs = record {
          whole = at_here ∙ bodies_next B cap on s g i (option_map yield out) (option_map all_abs o) (map (option_map all_abs) (drop (i + 1) args)) m (option_map yield y) n runs.value;
          left = each_next (ArgsOf B cap s g) i (option_map all_abs o) (map (option_map all_abs) (drop (i + 1) args)) left_here;
          fits = runs.fits;
          memo = runs.memo;
          grown = grown_then c.grown runs.grown;
        }
