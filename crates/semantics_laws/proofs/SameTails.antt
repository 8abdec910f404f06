-- Core terms in tail position end as the terms do.
use Rattle.std.proofs.Common.{◌≡◌, ℕ, ◌+◌, true, ◌==◌, Some, List, [], ◌∷◌, ◌++◌, length, slice_get, refl, sym, subst}
use Rattle.std.specs.List.{list_all}
use Rattle.base_trait.specs.Uses.{Read}
use Rattle.spec_match_compiler.specs.Meets.{meets}
use Rattle.spec_match_compiler.specs.Picks.{Choice, numbered, first_match, picks}
use Rattle.spec_ir.specs.declared.ty.Ty.{Ty}
use Rattle.spec_ir.specs.declared.ty.Ty.TheVariants.{Bool as Flag}
use Rattle.spec_ir.specs.Environment.{Environment, Signature}
use Rattle.spec_ir.specs.Terms as t
use Rattle.spec_ir.specs.Terms.{Term, Arms, patterns_of}
use Rattle.spec_ir.specs.TermTypes.{HasType, ArmsHaveType}
use Rattle.spec_ir.specs.CoreTerms.{Core, core_then}
use Rattle.spec_ir.specs.Cores.{core_of, arms_of, variable_types, type_in}
use Rattle.spec_ir.specs.WellFormed.{IsWellFormed}
use Rattle.semantics_values.specs.Values.{Val}
use Rattle.semantics.specs.Outcomes as o
use Rattle.semantics.specs.Outcomes.{Outcome, ◌>>=◌ as ◌>>>◌}
use Rattle.semantics.specs.Steps.{shown, bound}
use Rattle.semantics.specs.Tails as e
use Rattle.semantics.specs.Tails.{Ending, ends, tail, tail_arms}
use Rattle.semantics_laws.specs.Accepted.{is_map}
use Rattle.semantics_laws.specs.Total.{IsTotal, AreTotalArms, decision_of}
use Rattle.semantics_laws.proofs.Values.{IsOf, AreOf, are_append}
use Rattle.semantics_laws.proofs.Bound.{variables_have}
use Rattle.semantics_laws.specs.CoreDirect.{core_value, core_tail, core_tail_arm}
use Rattle.semantics_laws.proofs.Both.{Both, bind_both, either_both, branch_both, Taken, arm_taken, arm_chosen}
use Rattle.semantics_laws.proofs.SameValues.{behind, CallAlike, value_both, all_both}

module _ (env : Environment) where
  -- An ending is a value of a type, or a call of a function whose result has it on arguments of its parameters' types.
  abbrev pub EndsAs : Ty → Ending → Type 0
  EndsAs ty (e.leaf p) = IsOf env ty p
  EndsAs ty (e.again f ps) = (s : Signature) × (slice_get env.funs f ≡ Some s) × AreOf env s.params ps × (ty ≡ s.result_type)

  pub leaf_both : (ty : Ty) (x y : Outcome Val) → Both (IsOf env ty) x y → Both (EndsAs ty) (x >>> ends) (y >>> ends)
  leaf_both ty x y h = bind_both (IsOf env ty) (EndsAs ty) x y ends ends h (λ p l hp. (refl, hp))

module _ (env : Environment) (wf : IsWellFormed env) (maps : list_all (is_map env) env.maps ≡ true) (group : ℕ → ℕ) (g : ℕ) (calls calls' : ℕ → List Val → List Read → Outcome Val) (alike : CallAlike env calls calls') (a : ℕ) where
  abbrev ending : List Val → Core → List Read → Outcome Ending
  ending = core_tail env.maps group g calls a

  abbrev turn : List Val → Term → List Read → Outcome Ending
  turn = tail env.maps group g calls' a

  value_ends : (x : Term) (vars : List Ty) (ty : Ty) (vs : List Val) (l : List Read) → HasType env vars x ty → IsTotal env vars x → AreOf env vars vs → Both (EndsAs env ty) (core_value env.maps group g calls a vs (core_of env vars x) l >>> ends) (e.value_of env.maps group g calls' a vs x l >>> ends)
  value_ends x vars ty vs l h total are = leaf_both env ty _ _ (value_both env wf maps group g calls calls' alike a x vars ty vs l h total are)

  mutual
    pub tail_both : (x : Term) (vars : List Ty) (ty : Ty) (vs : List Val) (l : List Read) → HasType env vars x ty → IsTotal env vars x → AreOf env vars vs → Both (EndsAs env ty) (ending vs (core_of env vars x) l) (turn vs x l)
    tail_both (t.let_in x body) vars ty vs l h total are =
        let from = type_in env vars x in
        let same = total.1 h.0 h.1 in
        bind_both (IsOf env from) (EndsAs env ty) _ _ _ _ (value_both env wf maps group g calls calls' alike a x vars from vs l (subst (λ z. HasType env vars x z) (sym same) h.1) total.0 are) (λ p l hp.
        tail_both body (vars ++ from ∷ []) ty (vs ++ p ∷ []) l (subst (λ z. HasType env (vars ++ z ∷ []) body ty) (sym same) h.2) total.2 (are_append env vars (from ∷ []) vs (p ∷ []) are (hp, tt)))
    tail_both (t.if_else c x y) vars ty vs l h total are =
        bind_both (IsOf env Flag) (EndsAs env ty) _ _ _ _ (value_both env wf maps group g calls calls' alike a c vars Flag vs l h.0 total.0 are) (λ p l hp.
        branch_both (EndsAs env ty) p _ _ _ _ (tail_both x vars ty vs l h.1 total.1 are) (tail_both y vars ty vs l h.2 total.2 are))
    tail_both (t.match_on x arms) vars ty vs l h total are =
        let from = type_in env vars x in
        let same = total.1 h.0 h.1 in
        bind_both (IsOf env from) (EndsAs env ty) _ _ _ _ (value_both env wf maps group g calls calls' alike a x vars from vs l (subst (λ z. HasType env vars x z) (sym same) h.1) total.0 are) (λ p l hp.
        let c = total.2 p hp.has in
        arm_chosen (EndsAs env ty) p c.0 (picks (decision_of env from arms) (shown p)) (λ r more. core_tail_arm env.maps group g calls a vs (arms_of env vars from arms) r more l) (tail_arms env.maps group g calls' a vs p arms l) c.2
        (tail_arms_both arms vars from ty vs p l (subst (λ z. ArmsHaveType env vars z arms ty) (sym same) h.2) total.3 are hp 0 c.0 c.1))
    tail_both (t.call f args) vars ty vs l h total are =
        bind_both (AreOf env h.0.params) (EndsAs env ty) _ _ _ _ (all_both env wf maps group g calls calls' alike a args vars h.0.params vs l h.2 total are) (λ ps l q.
        either_both (EndsAs env ty) (group f == g) (o.gives (e.again f ps) l) (calls f ps l >>> ends) (o.gives (e.again f ps) l) (calls' f ps l >>> ends) (refl, (h.0, h.1, q, h.3))
        (leaf_both env ty (calls f ps l) (calls' f ps l) (subst (λ z. Both (IsOf env z) (calls f ps l) (calls' f ps l)) (sym h.3) (alike f h.0 ps l h.1 q))))
    tail_both (t.var n) vars ty vs l h total are = value_ends (t.var n) vars ty vs l h total are
    tail_both (t.flag b) vars ty vs l h total are = value_ends (t.flag b) vars ty vs l h total are
    tail_both (t.word w n) vars ty vs l h total are = value_ends (t.word w n) vars ty vs l h total are
    tail_both (t.un op w x) vars ty vs l h total are = value_ends (t.un op w x) vars ty vs l h total are
    tail_both (t.bin op w x y) vars ty vs l h total are = value_ends (t.bin op w x y) vars ty vs l h total are
    tail_both (t.test c w x y) vars ty vs l h total are = value_ends (t.test c w x y) vars ty vs l h total are
    tail_both (t.cast kind from to x) vars ty vs l h total are = value_ends (t.cast kind from to x) vars ty vs l h total are
    tail_both (t.make d c args) vars ty vs l h total are = value_ends (t.make d c args) vars ty vs l h total are
    tail_both (t.get m x y) vars ty vs l h total are = value_ends (t.get m x y) vars ty vs l h total are
    tail_both (t.put m x y z) vars ty vs l h total are = value_ends (t.put m x y z) vars ty vs l h total are

    tail_arms_both : (arms : Arms) (vars : List Ty) (from ty : Ty) (vs : List Val) (p : Val) (l : List Read) → ArmsHaveType env vars from arms ty → AreTotalArms env vars from arms → AreOf env vars vs → IsOf env from p
        → (n : ℕ) (c : Choice) → first_match (numbered n (patterns_of arms)) (shown p) ≡ Some c
        → Taken (EndsAs env ty) (λ r more. core_tail_arm env.maps group g calls a vs (arms_of env vars from arms) r more l) p n c (tail_arms env.maps group g calls' a vs p arms l)
    tail_arms_both t.no_arm vars from ty vs p l h total are q n c k = absurd cc
    tail_arms_both (t.arm_then pat body rest) vars from ty vs p l h total are q n c k =
        let more = variable_types env from pat in
        let types = variables_have env (length vars) from pat h.0 h.1 in
        arm_taken (EndsAs env ty) pat p n c (λ r more. core_tail_arm env.maps group g calls a vs (core_then (core_of env (vars ++ variable_types env from pat) body) (arms_of env vars from rest)) r more l)
        (turn (vs ++ bound pat p) body l) (tail_arms env.maps group g calls' a vs p rest l) (first_match (numbered (n + 1) (patterns_of rest)) (shown p))
        (λ met. tail_both body (vars ++ more) ty (vs ++ bound pat p) l (subst (λ zs. HasType env (vars ++ zs) body ty) (sym types) h.2) total.0 (behind env wf vars from vs p pat h.0 are q h.1 met))
        (λ later. tail_arms_both rest vars from ty vs p l h.3 total.1 are q (n + 1) c later)
        (meets pat (shown p)) refl k
