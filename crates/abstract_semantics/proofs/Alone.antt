-- On arguments there is one reinterpretation at most.
use Rattle.std.proofs.Common.{◌≡◌, ℕ, zero, suc, ◌<◌, List, [], Option, Some, None, slice_get, refl, sym, ap, subst, ◌∙◌, arith}
use Rattle.std.proofs.lemmas.Option.{slice_get_within}
use Rattle.base_trait.specs.Algebra.{Algebra}
use Rattle.base_trait.specs.Laws.{Laws}
use Rattle.abstract_map_laws.specs.Laws.{HasRoom}
use Rattle.spec_ir.specs.Environment.{Signature}
use Rattle.spec_ir.specs.Specification.{Spec, Fun}
use Rattle.semantics_values.specs.Types.{environment_of}
use Rattle.semantics.specs.Direct.{group_of}
use Rattle.semantics_laws.specs.Accepted.{IsAccepted}
use Rattle.semantics_laws.proofs.Turns.{FunOf, fun_of, signature_of}
use Rattle.abstract_value_laws.specs.Abs.{Abs}
use Rattle.support_tail_fixpoint.specs.Groups.{only as only_of}
use Rattle.support_tail_fixpoint.proofs.Groups.{only_is}
use Rattle.support_tail_fixpoint.specs.declared.policy.Policy.{Policy}
use Rattle.support_tail_fixpoint.specs.Activation.{HasTurn}
use Rattle.support_tail_fixpoint.proofs.Remains.{answers_are_one}
use Rattle.abstract_semantics.specs.Answers.{Answer}
use Rattle.abstract_semantics.specs.Calls.{AreArguments, AreRight, moves}
use Rattle.abstract_semantics.specs.Laws.{CallsAreSettled}
use Rattle.abstract_semantics.specs.Terms.{group_turn, params_in, params_of}
use Rattle.abstract_semantics.proofs.Called.{all_fine, calls_kept}
use Rattle.abstract_semantics.proofs.Carried.{carried}
use Rattle.abstract_semantics.proofs.Plain.{Nothing, are_arguments, each_nothing, keeps_nothing, past, signed}
use Rattle.abstract_semantics.proofs.Termed.{ArgsOf}
use Rattle.abstract_semantics.proofs.Typed.{AreOf, are_fit, are_typed}

module _ {W N C : Type 0} (B : Algebra W N C) (laws : Laws W N C B) (c : C) (cap : ℕ) (spec : Spec) (a : ℕ) (room : HasRoom B cap) (ok : IsAccepted spec) (policy : Policy) (turn : HasTurn policy)
    (calls others : ℕ → List (Abs W N) → Answer (Abs W N)) (right : AreRight B c cap spec a policy calls) (also : AreRight B c cap spec a policy others) where
  -- from the groups of lowest rank on
  settled : (n f : ℕ) (s : Signature) (xs : List (Abs W N)) → ok.rank (group_of spec f) < n → slice_get (environment_of spec).funs f ≡ Some s → AreOf B c cap (environment_of spec) Nothing s.params xs → calls f xs ≡ others f xs
  settled zero f s xs lt e h = absurd (omega (arith, lt))
  settled (suc n) f s xs lt e h = at (fun_of spec f s e) (λ g r ys small. settled n g r ys (omega (arith, small, lt)))
    where
      at : FunOf spec f s
          → ((g : ℕ) (r : Signature) (ys : List (Abs W N)) → ok.rank (group_of spec g) < ok.rank (group_of spec f) → slice_get (environment_of spec).funs g ≡ Some r → AreOf B c cap (environment_of spec) Nothing r.params ys → calls g ys ≡ others g ys)
          → calls f xs ≡ others f xs
      at fun same =
          let params : s.params ≡ params_of spec f = ap (λ z. z.params) (sym fun.same) ∙ sym (ap params_in fun.is) in
          let are : AreOf B c cap (environment_of spec) Nothing (params_of spec f) xs = subst (λ ts. AreOf B c cap (environment_of spec) Nothing ts xs) params h in
          let here = slice_get_within spec.funs f fun.fun fun.is in
          let args : AreArguments B c cap spec f xs = record { typed = are_typed B c cap (environment_of spec) Nothing (params_of spec f) xs are; fit = are_fit B c cap (environment_of spec) Nothing (params_of spec f) xs are } in
          answers_are_one (moves B c cap) policy f (group_turn B c cap spec a others (group_of spec f)) (only_of f xs) [] (calls f xs) (others f xs) turn
          (carried B laws c cap spec a Nothing (keeps_nothing B c cap (environment_of spec) a) (λ x y h k. tt) room ok policy calls f fun.fun fun.is
          (λ g r ys small. calls_kept B laws c cap spec a Nothing (keeps_nothing B c cap (environment_of spec) a) (λ x y h k. tt) room ok (Unit {0}) policy calls (all_fine B c cap policy) right (ok.rank (group_of spec f)) g r ys small)
          others same xs (calls f xs) (only_is (ArgsOf B laws c cap spec a Nothing (group_of spec f)) f xs (record { there = here; of_group = refl; are = are })) (right.answered f xs here args))
          (also.answered f xs here args)

pub calls_are_settled : {W N C : Type 0} (B : Algebra W N C) → Laws W N C B → CallsAreSettled B
calls_are_settled {W} {N} {C} B laws spec c cap a policy calls others f xs ok room turn right also args = at (slice_get spec.funs f) refl
  where
    at : (o : Option Fun) → slice_get spec.funs f ≡ o → calls f xs ≡ others f xs
    at None e = right.missing f xs (past spec.funs f e) ∙ sym (also.missing f xs (past spec.funs f e))
    at (Some fun) e =
        settled B laws c cap spec a room ok policy turn calls others right also (suc (ok.rank (group_of spec f))) f (signature_of fun) xs (omega arith) (signed spec f fun e)
        (are_arguments B c cap Nothing spec f fun xs e args (each_nothing xs))
