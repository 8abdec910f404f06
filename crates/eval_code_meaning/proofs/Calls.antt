-- Calls are what code means exactly where they are the reinterpretation of core terms.
use Rattle.std.proofs.Common.{◌≡◌, ℕ, zero, suc, ◌<◌, List, [], ◌∷◌, Option, Some, None, length, slice_get, refl, sym, ap, subst, ◌∙◌, arith}
use Rattle.std.specs.Prelude.{IfSome}
use Rattle.std.proofs.lemmas.Option.{slice_get_within}
use Rattle.base_trait.specs.Algebra.{Algebra}
use Rattle.base_trait.specs.Laws.{Laws}
use Rattle.base_trait.specs.Uses.{Seen}
use Rattle.abstract_map_laws.specs.Laws.{HasRoom}
use Rattle.spec_ir.specs.declared.ty.Ty.{Ty}
use Rattle.spec_ir.specs.Environment.{Signature}
use Rattle.spec_ir.specs.Specification.{Spec, Fun}
use Rattle.semantics_values.specs.Types.{environment_of}
use Rattle.semantics.specs.Direct.{group_of}
use Rattle.semantics_laws.specs.Accepted.{IsAccepted}
use Rattle.semantics_laws.proofs.Turns.{FunOf, fun_of}
use Rattle.abstract_value_laws.specs.Abs.{Abs}
use Rattle.support_tail_fixpoint.specs.Groups.{EachIs, only as only_of}
use Rattle.support_tail_fixpoint.proofs.Groups.{only_is}
use Rattle.support_tail_fixpoint.specs.declared.policy.Policy.{Policy}
use Rattle.support_tail_fixpoint.specs.Answer.{IfGives}
use Rattle.support_tail_fixpoint.specs.Evaluation.{TurnsGive}
use Rattle.support_tail_fixpoint.proofs.Answered.{answers_carry_over}
use Rattle.abstract_semantics.specs.Answers.{Answer}
use Rattle.abstract_semantics.specs.Calls.{AreArguments, AreRight, IsCallAnswer, moves}
use Rattle.abstract_semantics.specs.Terms.{GroupArgs, group_turn as term_turn, params_in, params_of}
use Rattle.abstract_semantics.proofs.Called.{all_fine, answer_kept, calls_kept, keeps_args}
use Rattle.abstract_semantics.proofs.Carried.{asks_fit}
use Rattle.abstract_semantics.proofs.Kept.{IsKept}
use Rattle.abstract_semantics.proofs.Plain.{Nothing, are_given, each_nothing, keeps_nothing, past}
use Rattle.abstract_semantics.proofs.Termed.{ArgsOf}
use Rattle.abstract_semantics.proofs.Typed.{AreOf, IsOf, are_fit, are_typed}
use Rattle.eval_code.specs.Code.{FunCode}
use Rattle.eval_code.specs.Lowered.{IsCodeOf}
use Rattle.eval_code_meaning.specs.Calls.{AreOfCode, IsCodeAnswer}
use Rattle.eval_code_meaning.specs.Laws.{CallsMeanTheSame}
use Rattle.eval_code_meaning.specs.Meaning.{group_turn}
use Rattle.eval_code_meaning.proofs.Groups.{AreCounted, groups_run}

module _ {W N C : Type 0} (B : Algebra W N C) (laws : Laws W N C B) (c : C) (cap : ℕ) (spec : Spec) (code : List FunCode) (a : ℕ) (room : HasRoom B cap) (ok : IsAccepted spec) (is : IsCodeOf code spec)
    (policy : Policy) (calls : ℕ → List (Abs W N) → Answer (Abs W N)) where
  -- arguments of a function, of group g
  abbrev Args : ℕ → ℕ → List (Abs W N) → Type 0
  Args g f xs = ArgsOf B laws c cap spec a Nothing g f xs

  -- a call of function f on arguments gives what has its type and fits
  abbrev KeptBelow : ℕ → Type 0
  KeptBelow n = (f : ℕ) (s : Signature) (xs : List (Abs W N)) → ok.rank (group_of spec f) < n → slice_get (environment_of spec).funs f ≡ Some s → AreOf B c cap (environment_of spec) Nothing s.params xs
      → IsKept (Unit {0}) (IsOf B c cap (environment_of spec) Nothing s.result_type) [] (calls f xs)

  many : (ts : List Ty) (xs : List (Abs W N)) → AreOf B c cap (environment_of spec) Nothing ts xs → length xs ≡ length ts
  many [] [] h = refl
  many [] (x ∷ xs) h = absurd h
  many (t ∷ ts) [] h = absurd h
  many (t ∷ ts) (x ∷ xs) h = ap suc (many ts xs h.1)

  counted : (g : ℕ) (on : ℕ → ℕ) (args : GroupArgs W N) → EachIs (λ i. Args g (on i)) args → EachIs (λ i. AreCounted spec g (on i)) args
  counted g on [] h = tt
  counted g on (None ∷ rest) h = (tt, counted g (λ i. on (suc i)) rest h.1)
  counted g on (Some xs ∷ rest) h = ((h.0.of_group, many (params_of spec (on zero)) xs h.0.are), counted g (λ i. on (suc i)) rest h.1)

  -- a turn on arguments, by code and by core terms
  same_turn : (g : ℕ) (args : GroupArgs W N) (l : List Seen) → EachIs (Args g) args → group_turn B c cap spec a calls code args l ≡ term_turn B c cap spec a calls g args l
  same_turn g args l h = groups_run B c cap spec a calls code is ok g args (counted g (λ i. i) args h) l

  module _ (f : ℕ) (fun : Fun) (e : slice_get spec.funs f ≡ Some fun) (below : KeptBelow (ok.rank (group_of spec f))) where
    fits : TurnsGive (term_turn B c cap spec a calls (group_of spec f)) (EachIs (Args (group_of spec f))) (λ y. IfSome y.next (EachIs (Args (group_of spec f))))
    fits = asks_fit B laws c cap spec a Nothing (keeps_nothing B c cap (environment_of spec) a) (λ x y h k. tt) room ok policy calls f fun e below

    code_fits : TurnsGive (group_turn B c cap spec a calls code) (EachIs (Args (group_of spec f))) (λ y. IfSome y.next (EachIs (Args (group_of spec f))))
    code_fits args l h = subst (λ r. IfGives r (λ y. IfSome y.next (EachIs (Args (group_of spec f))))) (sym (same_turn (group_of spec f) args l h)) (fits args l h)

    to_terms : (xs : List (Abs W N)) (answer : Answer (Abs W N)) → EachIs (Args (group_of spec f)) (only_of f xs) → IsCodeAnswer B c cap spec code a policy calls f xs answer → IsCallAnswer B c cap spec a policy calls f xs answer
    to_terms xs answer fit =
        answers_carry_over (EachIs (Args (group_of spec f))) (moves B c cap) policy f (group_turn B c cap spec a calls code) (term_turn B c cap spec a calls (group_of spec f)) (only_of f xs) [] answer
        (keeps_args B laws c cap spec a Nothing (keeps_nothing B c cap (environment_of spec) a) (λ x y h k. tt) room ok (group_of spec f)) code_fits fit (λ args l h. same_turn (group_of spec f) args l h)

    to_code : (xs : List (Abs W N)) (answer : Answer (Abs W N)) → EachIs (Args (group_of spec f)) (only_of f xs) → IsCallAnswer B c cap spec a policy calls f xs answer → IsCodeAnswer B c cap spec code a policy calls f xs answer
    to_code xs answer fit =
        answers_carry_over (EachIs (Args (group_of spec f))) (moves B c cap) policy f (term_turn B c cap spec a calls (group_of spec f)) (group_turn B c cap spec a calls code) (only_of f xs) [] answer
        (keeps_args B laws c cap spec a Nothing (keeps_nothing B c cap (environment_of spec) a) (λ x y h k. tt) room ok (group_of spec f)) fits fit (λ args l h. sym (same_turn (group_of spec f) args l h))

  -- arguments of a function as group arguments
  alone : (f : ℕ) (fun : Fun) (xs : List (Abs W N)) → slice_get spec.funs f ≡ Some fun → AreArguments B c cap spec f xs → EachIs (Args (group_of spec f)) (only_of f xs)
  alone f fun xs e args =
      only_is (Args (group_of spec f)) f xs
      (record { there = slice_get_within spec.funs f fun e; of_group = refl; are = are_given B c cap Nothing (environment_of spec) (params_of spec f) xs args.typed args.fit (each_nothing xs) })

  -- ---- calls that are what the code means give what has their types, from the groups of lowest rank on
  module _ (of_code : AreOfCode B c cap spec code a policy calls) where
    code_kept : (n : ℕ) → KeptBelow n
    code_kept zero f s xs lt e h = absurd (omega (arith, lt))
    code_kept (suc n) f s xs lt e h = at (fun_of spec f s e) (λ g r ys small. code_kept n g r ys (omega (arith, small, lt)))
      where
        at : FunOf spec f s → KeptBelow (ok.rank (group_of spec f)) → IsKept (Unit {0}) (IsOf B c cap (environment_of spec) Nothing s.result_type) [] (calls f xs)
        at fun below =
            let params : s.params ≡ params_of spec f = ap (λ z. z.params) (sym fun.same) ∙ sym (ap params_in fun.is) in
            let are : AreOf B c cap (environment_of spec) Nothing (params_of spec f) xs = subst (λ ts. AreOf B c cap (environment_of spec) Nothing ts xs) params h in
            let args : AreArguments B c cap spec f xs = record { typed = are_typed B c cap (environment_of spec) Nothing (params_of spec f) xs are; fit = are_fit B c cap (environment_of spec) Nothing (params_of spec f) xs are } in
            let fit = alone f fun.fun xs fun.is args in
            subst (λ z. IsKept (Unit {0}) (IsOf B c cap (environment_of spec) Nothing z) [] (calls f xs)) (ap (λ z. z.result_type) fun.same)
            (answer_kept B laws c cap spec a Nothing (keeps_nothing B c cap (environment_of spec) a) (λ x y h k. tt) room ok (Unit {0}) policy calls (all_fine B c cap policy) f fun.fun fun.is below (only_of f xs) (calls f xs) fit
            (to_terms f fun.fun fun.is below xs (calls f xs) fit (of_code.answered f xs (slice_get_within spec.funs f fun.fun fun.is) args)))

    pub are_right : AreRight B c cap spec a policy calls
    are_right = record {
      missing = of_code.missing;
      untyped = of_code.untyped;
      answered = λ f args there h. at f args there h (slice_get spec.funs f) refl;
    }
      where
        at : (f : ℕ) (xs : List (Abs W N)) → f < length spec.funs → AreArguments B c cap spec f xs → (o : Option Fun) → slice_get spec.funs f ≡ o → IsCallAnswer B c cap spec a policy calls f xs (calls f xs)
        at f xs there args None e = let h = past spec.funs f e in absurd (omega (arith, h, there))
        at f xs there args (Some fun) e = to_terms f fun e (code_kept (ok.rank (group_of spec f))) xs (calls f xs) (alone f fun xs e args) (of_code.answered f xs there args)

  module _ (right : AreRight B c cap spec a policy calls) where
    pub are_of_code : AreOfCode B c cap spec code a policy calls
    are_of_code = record {
      missing = right.missing;
      untyped = right.untyped;
      answered = λ f args there h. at f args there h (slice_get spec.funs f) refl;
    }
      where
        at : (f : ℕ) (xs : List (Abs W N)) → f < length spec.funs → AreArguments B c cap spec f xs → (o : Option Fun) → slice_get spec.funs f ≡ o → IsCodeAnswer B c cap spec code a policy calls f xs (calls f xs)
        at f xs there args None e = let h = past spec.funs f e in absurd (omega (arith, h, there))
        at f xs there args (Some fun) e =
            to_code f fun e
            (calls_kept B laws c cap spec a Nothing (keeps_nothing B c cap (environment_of spec) a) (λ x y h k. tt) room ok (Unit {0}) policy calls (all_fine B c cap policy) right (ok.rank (group_of spec f))) xs (calls f xs)
            (alone f fun xs e args) (right.answered f xs there args)

pub calls_mean_the_same : {W N C : Type 0} (B : Algebra W N C) → Laws W N C B → CallsMeanTheSame B
calls_mean_the_same B laws spec code c cap a policy calls ok room is =
    (λ of_code. are_right B laws c cap spec code a room ok is policy calls of_code, λ right. are_of_code B laws c cap spec code a room ok is policy calls right)
