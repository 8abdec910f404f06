-- A call means by core terms what it means by typed terms.
use Rattle.std.proofs.Common.{◌≡◌, ℕ, zero, suc, Some, List, slice_get, refl, sym, ◌∙◌, subst}
use Rattle.base_trait.specs.Uses.{Read}
use Rattle.spec_ir.specs.declared.ty.Ty.{Ty}
use Rattle.spec_ir.specs.Specification.{Spec, Fun}
use Rattle.semantics_values.specs.Values.{Val}
use Rattle.semantics_values.specs.Types.{environment_of}
use Rattle.semantics.specs.Outcomes.{Outcome, ◌>>=◌ as ◌>>>◌}
use Rattle.semantics.specs.Direct.{group_of, body_or_wrong}
use Rattle.semantics.specs.Tails as e
use Rattle.semantics.specs.Tails.{Ending, continued, tail, tail_turns, run_tails}
use Rattle.semantics_laws.specs.Accepted.{IsAccepted}
use Rattle.semantics_laws.proofs.Values.{IsOf, AreOf, are_from}
use Rattle.semantics_laws.proofs.Turns.{fun_of, params_are}
use Rattle.semantics_laws.proofs.Tailed.{tails_are_the_meaning}
use Rattle.semantics_laws.specs.CoreDirect.{core_tail, core_or_wrong, core_turns, core_run}
use Rattle.semantics_laws.specs.Laws.{CoresMeanTheSame}
use Rattle.semantics_laws.proofs.Both.{Both, bind_both}
use Rattle.semantics_laws.proofs.SameValues.{CallAlike}
use Rattle.semantics_laws.proofs.SameTails.{EndsAs, tail_both}

module _ (spec : Spec) (ok : IsAccepted spec) (a : ℕ) where
  -- what two ways to call functions give on arguments of the parameters' types
  abbrev AreAlike : (own own' : ℕ → List Val → List Read → Outcome Val) → Type 0
  AreAlike own own' = (f : ℕ) (fun : Fun) (ps : List Val) (l : List Read) → slice_get spec.funs f ≡ Some fun → AreOf (environment_of spec) fun.params ps → Both (IsOf (environment_of spec) fun.result_type) (own f ps l) (own' f ps l)

  -- by signatures
  signed : (own own' : ℕ → List Val → List Read → Outcome Val) → AreAlike own own' → CallAlike (environment_of spec) own own'
  signed own own' alike f s ps l is are =
      let fun = fun_of spec f s is in
      let both = alike f fun.fun ps l fun.is (subst (λ z. AreOf (environment_of spec) z.params ps) (sym fun.same) are) in
      subst (λ z. Both (IsOf (environment_of spec) z.result_type) (own f ps l) (own' f ps l)) fun.same both

  continued_both : (own own' : ℕ → List Val → List Read → Outcome Val) → AreAlike own own' → (ty : Ty) (x : Ending) (l : List Read) → EndsAs (environment_of spec) ty x → Both (IsOf (environment_of spec) ty) (continued own x l) (continued own' x l)
  continued_both own own' alike ty (e.leaf p) l h = (refl, h)
  continued_both own own' alike ty (e.again f ps) l h = subst (λ z. Both (IsOf (environment_of spec) z) (own f ps l) (own' f ps l)) (sym h.3) (signed own own' alike f h.0 ps l h.1 h.2)

  turn_both : (own own' calls calls' : ℕ → List Val → List Read → Outcome Val) → AreAlike own own' → AreAlike calls calls' → (g j : ℕ) (fun : Fun) (args : List Val) (l : List Read) → slice_get spec.funs j ≡ Some fun → AreOf (environment_of spec) fun.params args
      → Both (IsOf (environment_of spec) fun.result_type) (core_tail spec.maps (group_of spec) g calls a args fun.core l >>> continued own) (tail spec.maps (group_of spec) g calls' a args fun.body l >>> continued own')
  turn_both own own' calls calls' owns all g j fun args l e are =
      let right = ok.right j fun e in
      let env = environment_of spec in
      let both = tail_both env ok.types ok.maps (group_of spec) g calls calls' (signed calls calls' all) a fun.body fun.params fun.result_type args l right.typed right.total are in
      bind_both (EndsAs env fun.result_type) (IsOf env fun.result_type) _ _ (continued own) (continued own')
      (subst (λ x. Both (EndsAs env fun.result_type) (core_tail spec.maps (group_of spec) g calls a args x l) (tail spec.maps (group_of spec) g calls' a args fun.body l)) (sym right.core) both)
      (λ x l h. continued_both own own' owns fun.result_type x l h)

  turns_both : (calls calls' : ℕ → List Val → List Read → Outcome Val) → AreAlike calls calls' → (i d : ℕ) → AreAlike (core_turns spec a calls i d) (tail_turns spec a calls' i d)
  turns_both calls calls' all i zero j fun args l e are = (refl, tt)
  turns_both calls calls' all i (suc d) j fun args l e are =
      let both = turn_both (core_turns spec a calls i d) (tail_turns spec a calls' i d) calls calls' (turns_both calls calls' all i d) all (group_of spec i) j fun args l e are in
      subst (λ o. Both (IsOf (environment_of spec) fun.result_type) (core_or_wrong o (λ body. core_tail spec.maps (group_of spec) (group_of spec i) calls a args body l) >>> continued (core_turns spec a calls i d))
      (body_or_wrong o (λ body. tail spec.maps (group_of spec) (group_of spec i) calls' a args body l >>> continued (tail_turns spec a calls' i d)))) (sym e) both

  pub run_both : (d n : ℕ) → AreAlike (core_run spec a d n) (run_tails spec a d n)
  run_both d zero i fun args l e are = (refl, tt)
  run_both d (suc n) i fun args l e are = turns_both (core_run spec a d n) (run_tails spec a d n) (run_both d n) i d i fun args l e are

pub cores_mean_the_same : CoresMeanTheSame
cores_mean_the_same spec a d n i fun args l ok e h =
    (run_both spec ok a d n i fun args l e (are_from (environment_of spec) fun.params args h (params_are spec ok a i fun e))).0 ∙ tails_are_the_meaning spec a d n i args l ok
