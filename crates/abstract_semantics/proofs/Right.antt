-- The answers of calls are a reinterpretation, and the one.
use Rattle.std.proofs.Common.{◌≡◌, ℕ, zero, suc, ◌<◌, ◌≤◌, Bool, true, false, cond, List, [], ◌∷◌, length, Some, None, slice_get, refl, sym, ap, subst, ◌∙◌, arith}
use Rattle.std.proofs.lemmas.Option.{slice_get_within}
use Rattle.base_trait.specs.Algebra.{Algebra}
use Rattle.base_trait.specs.Laws.{Laws}
use Rattle.base_trait.specs.declared.uses.Stamp.TheVariants.{At}
use Rattle.abstract_map_laws.specs.Laws.{HasRoom}
use Rattle.spec_ir.specs.Specification.{Spec, Fun}
use Rattle.semantics_values.specs.Types.{environment_of}
use Rattle.semantics.specs.Direct.{group_at, group_of}
use Rattle.semantics_laws.specs.Accepted.{IsAccepted}
use Rattle.semantics_laws.proofs.Turns.{signature_of}
use Rattle.abstract_value_laws.specs.Abs.{Abs, parts}
use Rattle.abstract_value_laws.specs.Shapes.{ListsStamps}
use Rattle.abstract_value_laws.proofs.Widening.{widen_lists}
use Rattle.support_tail_fixpoint.specs.Groups.{only as only_of}
use Rattle.support_tail_fixpoint.proofs.Groups.{only_is}
use Rattle.support_tail_fixpoint.specs.declared.policy.Policy.{Policy}
use Rattle.support_tail_fixpoint.specs.Activation.{HasTurn}
use Rattle.support_tail_fixpoint.specs.Answer.{gives}
use Rattle.support_tail_fixpoint.proofs.Remains.{answers_are_one}
use Rattle.abstract_semantics.specs.Answers.{Answer}
use Rattle.abstract_semantics.specs.Calls.{AreArguments, AreRight, IsCallAnswer, moves}
use Rattle.abstract_semantics.specs.Terms.{group_turn, params_in, params_of}
use Rattle.abstract_semantics.proofs.Alone.{calls_are_settled}
use Rattle.abstract_semantics.proofs.Called.{all_fine, answer_kept}
use Rattle.abstract_semantics.proofs.Carried.{carried}
use Rattle.abstract_semantics.proofs.Kept.{IsKept, keeps_itself}
use Rattle.abstract_semantics.proofs.Levels.{AreKept, own_args}
use Rattle.abstract_semantics.proofs.Listed.{keeps_stamps}
use Rattle.abstract_semantics.specs.OwnStamps.{part_stamps}
use Rattle.abstract_semantics.proofs.Plain.{signed}
use Rattle.abstract_semantics.proofs.Termed.{ArgsOf}
use Rattle.abstract_semantics.proofs.Typed.{AreOf, IsOf}
use Rattle.abstract_semantics.specs.CallAnswers.{activated, answers, answers_at, answers_by, are_arguments}
use Rattle.abstract_semantics.specs.CallLaws.{AnswersAreRight, AnswersAreTheOne, JoinsUnder}
use Rattle.abstract_semantics.proofs.Activated.{activated_answers}
use Rattle.abstract_semantics.proofs.Arguments.{IsCall, arguments_tell, is_call, missing_tells, untyped_tells}

module _ {W N C : Type 0} (B : Algebra W N C) (laws : Laws W N C B) (c : C) (cap : ℕ) (spec : Spec) (a : ℕ) (room : HasRoom B cap) (ok : IsAccepted spec) (policy : Policy) (has : HasTurn policy) (joins : JoinsUnder B policy) where
  abbrev Calls : Type 0
  Calls = ℕ → List (Abs W N) → Answer (Abs W N)

  -- ---- calls keep types, level by level
  by_kept : (calls : Calls) → AreKept B c cap spec a calls → AreKept B c cap spec a (answers_by B c cap spec a policy calls)
  by_kept calls kept stamps f s xs d h = at (are_arguments B c cap spec f xs) refl
    where
      activation : (call : IsCall B laws c cap spec f xs) → signature_of call.fun ≡ s → IsKept (Unit {0}) (IsOf B c cap (environment_of spec) (ListsStamps B (At a ∷ stamps)) s.result_type) [] (activated B c cap spec a policy calls f xs)
      activation call is =
          let params : s.params ≡ params_of spec f = ap (λ z. z.params) (sym is) ∙ sym (ap params_in call.is) in
          subst (λ z. IsKept (Unit {0}) (IsOf B c cap (environment_of spec) (ListsStamps B (At a ∷ stamps)) z) [] (activated B c cap spec a policy calls f xs)) (ap (λ z. z.result_type) is)
          (answer_kept B laws c cap spec a (ListsStamps B (At a ∷ stamps)) (keeps_stamps B laws c cap (environment_of spec) a stamps) (λ x y p q. widen_lists B laws c (At a ∷ stamps) x y p q) room ok
          (Unit {0}) policy calls (all_fine B c cap policy) f call.fun call.is (λ g r ys lt d k. kept stamps g r ys d k) (only_of f xs) (activated B c cap spec a policy calls f xs)
          (only_is (ArgsOf B laws c cap spec a (ListsStamps B (At a ∷ stamps)) (group_of spec f)) f xs
          (record { there = slice_get_within spec.funs f call.fun call.is; of_group = refl; are = subst (λ ts. AreOf B c cap (environment_of spec) (ListsStamps B (At a ∷ stamps)) ts xs) params h }))
          (activated_answers B laws c cap spec a policy ok has joins calls f call.fun xs kept call.is call.args))

      same : (call : IsCall B laws c cap spec f xs) → signature_of call.fun ≡ s
      same call = let both = sym (signed spec f call.fun call.is) ∙ d in cc

      at : (b : Bool) → are_arguments B c cap spec f xs ≡ b → IsKept (Unit {0}) (IsOf B c cap (environment_of spec) (ListsStamps B (At a ∷ stamps)) s.result_type) [] (cond b (activated B c cap spec a policy calls f xs) (gives None []))
      at true e = let call = is_call B laws c cap spec f xs e in activation call (same call)
      at false e = (tt, keeps_itself [])

  level_kept : (n : ℕ) → AreKept B c cap spec a (answers_at B c cap spec a policy n)
  level_kept zero stamps f s xs d h = (tt, keeps_itself [])
  level_kept (suc n) stamps f s xs d h = by_kept (answers_at B c cap spec a policy n) (level_kept n) stamps f s xs d h

  -- ---- calls that agree on groups of lower rank give the same
  module _ (calls others : Calls) (kept : AreKept B c cap spec a calls) (f : ℕ) (xs : List (Abs W N)) (call : IsCall B laws c cap spec f xs)
      (lower : (h : ℕ) (ys : List (Abs W N)) → ok.rank (group_of spec h) < ok.rank (group_of spec f) → calls h ys ≡ others h ys) where
    answers_others : IsCallAnswer B c cap spec a policy others f xs (activated B c cap spec a policy calls f xs)
    answers_others =
        carried B laws c cap spec a (ListsStamps B (At a ∷ part_stamps B (parts xs))) (keeps_stamps B laws c cap (environment_of spec) a (part_stamps B (parts xs)))
        (λ x y p q. widen_lists B laws c (At a ∷ part_stamps B (parts xs)) x y p q) room ok policy calls f call.fun call.is
        (λ g r ys small d k. kept (part_stamps B (parts xs)) g r ys d k) others (λ g r ys small d k. lower g ys small)
        xs (activated B c cap spec a policy calls f xs) (own_args B laws c cap spec a f call.fun xs call.is call.args) (activated_answers B laws c cap spec a policy ok has joins calls f call.fun xs kept call.is call.args)

    same_answer : AreKept B c cap spec a others → activated B c cap spec a policy calls f xs ≡ activated B c cap spec a policy others f xs
    same_answer others_kept =
        answers_are_one (moves B c cap) policy f (group_turn B c cap spec a others (group_of spec f)) (only_of f xs) [] (activated B c cap spec a policy calls f xs) (activated B c cap spec a policy others f xs) has
        answers_others (activated_answers B laws c cap spec a policy ok has joins others f call.fun xs others_kept call.is call.args)

  by_same : (calls others : Calls) → AreKept B c cap spec a calls → AreKept B c cap spec a others → (f : ℕ) (xs : List (Abs W N))
      → ((h : ℕ) (ys : List (Abs W N)) → ok.rank (group_of spec h) < ok.rank (group_of spec f) → calls h ys ≡ others h ys)
      → answers_by B c cap spec a policy calls f xs ≡ answers_by B c cap spec a policy others f xs
  by_same calls others kept others_kept f xs lower = at (are_arguments B c cap spec f xs) refl
    where
      at : (b : Bool) → are_arguments B c cap spec f xs ≡ b
          → cond b (activated B c cap spec a policy calls f xs) (gives None []) ≡ cond b (activated B c cap spec a policy others f xs) (gives None [])
      at true e = same_answer calls others kept f xs (is_call B laws c cap spec f xs e) lower others_kept
      at false e = refl

  -- calls of groups of rank below n are the same at level n and above it
  settles : (n f : ℕ) (xs : List (Abs W N)) → ok.rank (group_of spec f) < n → answers_at B c cap spec a policy n f xs ≡ answers_at B c cap spec a policy (suc n) f xs
  settles zero f xs lt = absurd (omega (arith, lt))
  settles (suc n) f xs lt =
      by_same (answers_at B c cap spec a policy n) (answers_at B c cap spec a policy (suc n)) (level_kept n) (level_kept (suc n)) f xs (λ h ys small. settles n h ys (omega (arith, small, lt)))

  -- ---- all levels
  rank_bound : (f : ℕ) (fun : Fun) → slice_get spec.funs f ≡ Some fun → ok.rank (group_of spec f) ≤ length spec.funs
  rank_bound f fun e = subst (λ g. ok.rank g ≤ length spec.funs) (sym (ap group_at e)) (ok.right f fun e).bound

  by_false : (f : ℕ) (xs : List (Abs W N)) → are_arguments B c cap spec f xs ≡ false → answers B c cap spec a policy f xs ≡ gives None []
  by_false f xs e = ap (λ b. cond b (activated B c cap spec a policy (answers_at B c cap spec a policy (length spec.funs)) f xs) (gives None [])) e

  by_true : (f : ℕ) (xs : List (Abs W N)) → are_arguments B c cap spec f xs ≡ true → answers B c cap spec a policy f xs ≡ activated B c cap spec a policy (answers_at B c cap spec a policy (length spec.funs)) f xs
  by_true f xs e = ap (λ b. cond b (activated B c cap spec a policy (answers_at B c cap spec a policy (length spec.funs)) f xs) (gives None [])) e

  answered : (f : ℕ) (xs : List (Abs W N)) → f < length spec.funs → AreArguments B c cap spec f xs → IsCallAnswer B c cap spec a policy (answers B c cap spec a policy) f xs (answers B c cap spec a policy f xs)
  answered f xs lt args =
      let e = arguments_tell B laws c cap spec f xs lt args in
      let call = is_call B laws c cap spec f xs e in
      let few = rank_bound f call.fun call.is in
      subst (λ r. IsCallAnswer B c cap spec a policy (answers B c cap spec a policy) f xs r) (sym (by_true f xs e))
      (answers_others (answers_at B c cap spec a policy (length spec.funs)) (answers B c cap spec a policy) (level_kept (length spec.funs)) f xs call
      (λ h ys small. settles (length spec.funs) h ys (omega (arith, small, few))))

  pub right : AreRight B c cap spec a policy (answers B c cap spec a policy)
  right = record {
    missing = λ f xs le. by_false f xs (missing_tells B laws c cap spec f xs le);
    untyped = λ f xs e. by_false f xs (untyped_tells B laws c cap spec f xs e);
    answered = answered;
  }

pub answers_are_right : {W N C : Type 0} (B : Algebra W N C) → Laws W N C B → AnswersAreRight B
answers_are_right B laws spec c cap a policy ok room has joins = right B laws c cap spec a room ok policy has joins

pub answers_are_the_one : {W N C : Type 0} (B : Algebra W N C) → Laws W N C B → AnswersAreTheOne B
answers_are_the_one B laws spec c cap a policy calls f xs ok room has joins are args =
    calls_are_settled B laws spec c cap a policy calls (answers B c cap spec a policy) f xs ok room has are (right B laws c cap spec a room ok policy has joins) args
