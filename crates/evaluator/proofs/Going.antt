-- What the arms of a plan give, one after the other.
use Rattle.std.proofs.Common.{◌≡◌, ◌∙◌, ◌<◌, ◌≤◌, ◌++◌, ℕ, List, [], ◌∷◌, Option, None, Result, Ok, Err, option_map, map, refl, sym, ap, subst, arith}
use Rattle.std.specs.Prelude.{All, IfSome}
use Rattle.std.proofs.lemmas.List.{map-append}
use Rattle.std.proofs.lemmas.List.Elements.{All-append, All-cons, All-nil}
use Rattle.base_trait.specs.Algebra.{Algebra}
use Rattle.base_trait.specs.Uses.{Seen}
use Rattle.spec_ir.specs.Specification.{Spec}
use Rattle.abstract_value_laws.specs.Abs.{Abs}
use Rattle.abstract_value.specs.View.{abs}
use Rattle.abstract_value.specs.declared.value.AbstractValue.{AbstractValue}
use Rattle.support_tail_fixpoint.specs.Answer.{gives}
use Rattle.abstract_semantics.specs.Answers.{Answer}
use Rattle.eval_memo.specs.declared.error.EvalError.{EvalError}
use Rattle.eval_memo.specs.declared.setting.Setting.{Setting}
use Rattle.eval_memo.specs.Given.{Gives}
use Rattle.eval_memo.specs.Memos.{Remembered, Stands}
use Rattle.eval_memo.specs.Ready.{YieldFits}
use Rattle.eval_memo.specs.Settings.{join_yields}
use Rattle.eval_activation.specs.Views.{yield}
use Rattle.eval_activation.specs.declared.turn_yield.TurnYield.{TurnYield}
use Rattle.eval_plans.specs.Plans.{Plan, PlanFits, arm, both, nothing, size}
use Rattle.evaluator.specs.Arms.{Arms, given_arm, given_plan}
use Rattle.evaluator.specs.Joins.{join_all, joined_behind}
use Rattle.evaluator.specs.Runs.{HaveGrown, Runs}
use Rattle.eval_memo.proofs.Answering.{passed}
use Rattle.evaluator.proofs.Growing.{grown_then, no_more}
use Rattle.evaluator.proofs.Joining.{behind_none, first_fails, first_gave, last_fails, last_gave}

module _ {X W N C : Type 0} (B : Algebra W N C) (cap : ℕ) (s : Setting X W N C) (on : ℕ → List (Abs W N) → Answer (Abs W N)) (before ticked g : ℕ) where
  -- What the plan gives is what its rest gives, joined behind what has been given.
  pub record Going (arms : Arms) (whole rest : Plan W N) (old new : List (AbstractValue X W N C)) (firsts : List (Option (TurnYield X W N C))) (l m : List Seen) (es fs : List (Remembered W N)) (steps : ℕ) : Type 0 where
    pub whole_is : given_plan B cap on s (map abs old) arms whole l ≡ joined_behind (join_yields B cap on s) (map (option_map yield) firsts) (given_plan B cap on s (map abs old) arms rest m)
    pub below : size rest ≤ size whole
    pub plan : PlanFits B s.ctx.now cap rest
    pub firsts_fit : All (λ x. IfSome x (λ v. YieldFits B cap s g (yield v))) firsts
    pub env : new ≡ old
    pub memo : Stands on before ticked fs steps
    pub grown : HaveGrown l m es fs

module _ {X W N C : Type 0} {B : Algebra W N C} {cap : ℕ} {s : Setting X W N C} {on : ℕ → List (Abs W N) → Answer (Abs W N)} {before ticked g : ℕ} where
  pub going_first : {arms : Arms} {p : Plan W N} {env : List (AbstractValue X W N C)} {firsts : List (Option (TurnYield X W N C))} {l : List Seen} {es : List (Remembered W N)} {steps : ℕ}
      → firsts ≡ [] → PlanFits B s.ctx.now cap p → Stands on before ticked es steps → Going B cap s on before ticked g arms p p env env firsts l l es es steps
  going_first {arms} {p} {env} {firsts} {l} {es} {steps} empty fits stands =
      subst (λ xs. Going B cap s on before ticked g arms p p env env xs l l es es steps) (sym empty)
      (record {
        whole_is = behind_none (join_yields B cap on s) (given_plan B cap on s (map abs env) arms p l);
        below = omega arith;
        plan = fits;
        firsts_fit = All-nil (λ (x : Option (TurnYield X W N C)). IfSome x (λ v. YieldFits B cap s g (yield v)));
        env = refl;
        memo = stands;
        grown = no_more l es;
      })

  module _ {arms : Arms} {p r : Plan W N} {old mid : List (AbstractValue X W N C)} {firsts : List (Option (TurnYield X W N C))} {l m : List Seen} {es fs : List (Remembered W N)} {steps : ℕ} (c : Going B cap s on before ticked g arms p r old mid firsts l m es fs steps) where
    -- no branch is left
    pub none_left : {spec : Spec} (z : Option (TurnYield X W N C)) → r ≡ nothing → option_map yield z ≡ join_all (join_yields B cap on s) (map (option_map yield) firsts) None → IfSome z (λ v. YieldFits B cap s g (yield v))
        → Runs B cap s spec on before ticked yield (λ y. YieldFits B cap s g (yield y)) (Ok z) l m (given_plan B cap on s (map abs old) arms p l) old mid es fs steps
    none_left z is joined fits = record {
      value = last_gave B cap on s (map abs old) arms (map (option_map yield) firsts) (given_plan B cap on s (map abs old) arms p l) r m None m c.whole_is (ap (λ p. given_plan B cap on s (map abs old) arms p m) is)
          ∙ ap (λ o. gives o m) (sym joined);
      fits = fits;
      env = c.env;
      memo = c.memo;
      grown = c.grown;
    }

    last_so : (n : List Seen) (k : ℕ) (vs : List (Abs W N)) → r ≡ arm k vs → (q : Result (Option (TurnYield X W N C)) EvalError) → Gives (yield {X = X} {W = W} {N = N} {C = C}) q n (given_arm B cap on s (map abs mid) arms k vs m) → Gives (yield {X = X} {W = W} {N = N} {C = C}) q n (given_plan B cap on s (map abs old) arms r m)
    last_so n k vs is q h = subst (λ p. Gives (yield {X = X} {W = W} {N = N} {C = C}) q n (given_plan B cap on s (map abs old) arms p m)) (sym is) (subst (λ (e : List (AbstractValue X W N C)). Gives (yield {X = X} {W = W} {N = N} {C = C}) q n (given_arm B cap on s (map abs e) arms k vs m)) c.env h)

    first_so : (n : List Seen) (q d : Plan W N) → d ≡ q → (a : Result (Option (TurnYield X W N C)) EvalError) → Gives (yield {X = X} {W = W} {N = N} {C = C}) a n (given_plan B cap on s (map abs mid) arms d m) → Gives (yield {X = X} {W = W} {N = N} {C = C}) a n (given_plan B cap on s (map abs old) arms q m)
    first_so n q d taken a h = subst (λ p. Gives (yield {X = X} {W = W} {N = N} {C = C}) a n (given_plan B cap on s (map abs old) arms p m)) taken (subst (λ (e : List (AbstractValue X W N C)). Gives (yield {X = X} {W = W} {N = N} {C = C}) a n (given_plan B cap on s (map abs e) arms d m)) c.env h)

    module _ {spec : Spec} {new : List (AbstractValue X W N C)} {n : List Seen} {gs : List (Remembered W N)} {high : ℕ} where
      -- a last branch is left
      module _ (k : ℕ) (vs : List (Abs W N)) (is : r ≡ arm k vs) where
        pub last_failed : {P : TurnYield X W N C → Type 0} {er : EvalError} → Runs B cap s spec on before ticked yield (λ (y : TurnYield X W N C). YieldFits B cap s g (yield y)) (Err er) m n (given_arm B cap on s (map abs mid) arms k vs m) mid new fs gs high
            → Runs B cap s spec on before ticked yield P (Err er) l n (given_plan B cap on s (map abs old) arms p l) old new es gs high
        last_failed {P} {er} runs = record {
          value = passed (yield {X = X} {W = W} {N = N} {C = C}) (yield {X = X} {W = W} {N = N} {C = C}) er n n (given_plan B cap on s (map abs old) arms r m) (given_plan B cap on s (map abs old) arms p l) (last_so n k vs is (Err er) runs.value)
              (λ i e. last_fails B cap on s (map abs old) arms (map (option_map yield) firsts) (given_plan B cap on s (map abs old) arms p l) r m i c.whole_is e);
          fits = tt;
          env = tt;
          memo = runs.memo;
          grown = grown_then c.grown runs.grown;
        }

        pub last_joined : (y z : Option (TurnYield X W N C)) → Runs B cap s spec on before ticked yield (λ y. YieldFits B cap s g (yield y)) (Ok y) m n (given_arm B cap on s (map abs mid) arms k vs m) mid new fs gs high
            → option_map yield z ≡ join_all (join_yields B cap on s) (map (option_map yield) firsts) (option_map yield y) → IfSome z (λ v. YieldFits B cap s g (yield v))
            → Runs B cap s spec on before ticked yield (λ y. YieldFits B cap s g (yield y)) (Ok z) l n (given_plan B cap on s (map abs old) arms p l) old new es gs high
        last_joined y z runs joined fits = record {
          value = last_gave B cap on s (map abs old) arms (map (option_map yield) firsts) (given_plan B cap on s (map abs old) arms p l) r m (option_map yield y) n c.whole_is (last_so n k vs is (Ok y) runs.value)
              ∙ ap (λ o. gives o n) (sym joined);
          fits = fits;
          env = runs.env ∙ c.env;
          memo = runs.memo;
          grown = grown_then c.grown runs.grown;
        }

      -- two plans are left
      module _ (q b d : Plan W N) (is : r ≡ both q b) (taken : d ≡ q) where
        pub first_failed : {P : TurnYield X W N C → Type 0} {er : EvalError} → Runs B cap s spec on before ticked yield (λ (y : TurnYield X W N C). YieldFits B cap s g (yield y)) (Err er) m n (given_plan B cap on s (map abs mid) arms d m) mid new fs gs high
            → Runs B cap s spec on before ticked yield P (Err er) l n (given_plan B cap on s (map abs old) arms p l) old new es gs high
        first_failed {P} {er} runs = record {
          value = passed (yield {X = X} {W = W} {N = N} {C = C}) (yield {X = X} {W = W} {N = N} {C = C}) er n n (given_plan B cap on s (map abs old) arms q m) (given_plan B cap on s (map abs old) arms p l) (first_so n q d taken (Err er) runs.value)
              (λ i e. first_fails B cap on s (map abs old) arms (map (option_map yield) firsts) (given_plan B cap on s (map abs old) arms p l) r m q b i is c.whole_is e);
          fits = tt;
          env = tt;
          memo = runs.memo;
          grown = grown_then c.grown runs.grown;
        }

        module _ (y : Option (TurnYield X W N C)) (a : Plan W N) (left : a ≡ b) (longer : List (Option (TurnYield X W N C))) (pushed : longer ≡ firsts ++ y ∷ []) (runs : Runs B cap s spec on before ticked yield (λ y. YieldFits B cap s g (yield y)) (Ok y) m n (given_plan B cap on s (map abs mid) arms d m) mid new fs gs high) where
          longer_so : given_plan B cap on s (map abs old) arms p l ≡ joined_behind (join_yields B cap on s) (map (option_map yield) longer) (given_plan B cap on s (map abs old) arms a n)
          longer_so =
              first_gave B cap on s (map abs old) arms (map (option_map yield) firsts) (given_plan B cap on s (map abs old) arms p l) r m q b (option_map yield y) n is c.whole_is (first_so n q d taken (Ok y) runs.value)
              ∙ ap (λ xs. joined_behind (join_yields B cap on s) xs (given_plan B cap on s (map abs old) arms b n)) (sym (ap (map (option_map yield)) pushed ∙ map-append (option_map yield) firsts (y ∷ [])))
              ∙ ap (λ p. joined_behind (join_yields B cap on s) (map (option_map yield) longer) (given_plan B cap on s (map abs old) arms p n)) (sym left)

          longer_fit : All (λ x. IfSome x (λ v. YieldFits B cap s g (yield v))) longer
          longer_fit =
              subst (All (λ (x : Option (TurnYield X W N C)). IfSome x (λ v. YieldFits B cap s g (yield v)))) (sym pushed)
              (All-append (λ (x : Option (TurnYield X W N C)). IfSome x (λ v. YieldFits B cap s g (yield v))) firsts (y ∷ []) c.firsts_fit
              (All-cons (λ (x : Option (TurnYield X W N C)). IfSome x (λ v. YieldFits B cap s g (yield v))) y [] runs.fits (All-nil (λ (x : Option (TurnYield X W N C)). IfSome x (λ v. YieldFits B cap s g (yield v))))))

          less : size a ≤ size p
          less = let one = ap size is in let two = ap size left in let three = c.below in omega (arith, one, two, three)

          rest_fits : PlanFits B s.ctx.now cap a
          rest_fits = subst (PlanFits B s.ctx.now cap) (sym left) (subst (PlanFits B s.ctx.now cap) is c.plan).1

          pub first_joined : Going B cap s on before ticked g arms p a old new longer l n es gs high
          first_joined = record { whole_is = longer_so; below = less; plan = rest_fits; firsts_fit = longer_fit; env = runs.env ∙ c.env; memo = runs.memo; grown = grown_then c.grown runs.grown }

-- and a smaller plan is left
pub rest_smaller : {W N : Type 0} (r q b a : Plan W N) → r ≡ both q b → a ≡ b → size a < size r
rest_smaller r q b a is left = let one = ap size is in let two = ap size left in omega (arith, one, two)

module _ {X W N C : Type 0} (B : Algebra W N C) (cap : ℕ) (s : Setting X W N C) where
  pub first_fits : (r q b d : Plan W N) → r ≡ both q b → d ≡ q → PlanFits B s.ctx.now cap r → PlanFits B s.ctx.now cap d
  first_fits r q b d is taken fits = subst (PlanFits B s.ctx.now cap) (sym taken) (subst (PlanFits B s.ctx.now cap) is fits).0
