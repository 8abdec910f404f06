-- Core terms have the values of the terms, where variables have values of their types.
use Rattle.std.proofs.Common.{◌≡◌, ℕ, ◌+◌, true, ◌==◌, Some, List, [], ◌∷◌, ◌++◌, length, slice_get, refl, sym, subst}
use Rattle.std.specs.List.{list_all}
use Rattle.base_trait.specs.Uses.{Read}
use Rattle.spec_match_compiler.specs.Patterns.{Pattern}
use Rattle.spec_match_compiler.specs.Meets.{meets}
use Rattle.spec_match_compiler.specs.Picks.{Choice, numbered, first_match, picks}
use Rattle.spec_ir.specs.declared.ty.Ty.{Ty}
use Rattle.spec_ir.specs.declared.ty.Ty.TheVariants.{Bool as Flag, Word, Data as DataTy, Map as MapOf}
use Rattle.spec_ir.specs.Environment.{Environment, Signature, key_type, value_type}
use Rattle.spec_ir.specs.Texts.{case_at, fields_at}
use Rattle.spec_ir.specs.Terms as t
use Rattle.spec_ir.specs.Terms.{Term, Terms, Arms, patterns_of}
use Rattle.spec_ir.specs.TermTypes.{PatternTyped, HasType, HaveTypes, ArmsHaveType}
use Rattle.spec_ir.specs.CoreTerms.{Core, Cores, core_then}
use Rattle.spec_ir.specs.Cores.{core_of, cores_of, arms_of, variable_types, type_in}
use Rattle.spec_ir.specs.WellFormed.{IsWellFormed}
use Rattle.semantics_values.specs.Values as v
use Rattle.semantics_values.specs.Values.{Val, vals}
use Rattle.semantics.specs.Outcomes as o
use Rattle.semantics.specs.Outcomes.{Outcome, given, seen, branch, ◌>>=◌ as ◌>>>◌}
use Rattle.semantics.specs.Steps.{unary, binary, compared, resized, accessed, updated, shown, bound}
use Rattle.semantics.specs.Direct.{den, den_all, den_arms}
use Rattle.semantics.specs.Tails as e
use Rattle.semantics_laws.specs.Accepted.{is_map}
use Rattle.semantics_laws.specs.Total.{IsTotal, AreTotal, AreTotalArms, decision_of}
use Rattle.semantics_laws.proofs.Values.{width_to, IsOf, AreOf, are_at, are_append, word_of, flag_of, unary_there, binary_there, compared_there, resized_there}
use Rattle.semantics_laws.proofs.Maps.{accessed_there, updated_there}
use Rattle.semantics_laws.proofs.Bound.{make_of, bound_of, variables_have}
use Rattle.semantics_laws.proofs.Terms.{map_at}
use Rattle.semantics_laws.specs.CoreDirect.{core_value, core_values, core_arm}
use Rattle.semantics_laws.proofs.Both.{Both, bind_both, either_both, branch_both, given_both, seen_both, taken_as, Taken, arm_taken, arm_chosen}

-- values of the variables of a pattern behind others
pub behind : (env : Environment) (wf : IsWellFormed env) (vars : List Ty) (from : Ty) (vs : List Val) (p : Val) (pat : Pattern) (more : List Ty) → AreOf env vars vs → IsOf env from p → PatternTyped env (length vars) from pat more → meets pat (shown p) ≡ true
    → AreOf env (vars ++ variable_types env from pat) (vs ++ bound pat p)
behind env wf vars from vs p pat more are q h m =
    subst (λ zs. AreOf env (vars ++ zs) (vs ++ bound pat p)) (sym (variables_have env (length vars) from pat more h)) (are_append env vars more vs (bound pat p) are (bound_of env wf (length vars) from pat more p h q m))

-- `calls` and `calls'` give the same on arguments of the parameters' types, of the result's type
abbrev pub CallAlike : Environment → (calls calls' : ℕ → List Val → List Read → Outcome Val) → Type 0
CallAlike env calls calls' = (f : ℕ) (s : Signature) (ps : List Val) (l : List Read) → slice_get env.funs f ≡ Some s → AreOf env s.params ps → Both (IsOf env s.result_type) (calls f ps l) (calls' f ps l)

module _ (env : Environment) (wf : IsWellFormed env) (maps : list_all (is_map env) env.maps ≡ true) (group : ℕ → ℕ) (g : ℕ) (calls calls' : ℕ → List Val → List Read → Outcome Val) (alike : CallAlike env calls calls') (a : ℕ) where
  abbrev core : List Val → Core → List Read → Outcome Val
  core = core_value env.maps group g calls a

  abbrev cores : List Val → Cores → List Read → Outcome (List Val)
  cores = core_values env.maps group g calls a

  abbrev outer : ℕ → List Val → List Read → Outcome Val
  outer = e.others env.maps group g calls' a

  abbrev means : List Val → Term → List Read → Outcome Val
  means = den env.maps outer a

  mutual
    pub value_both : (x : Term) (vars : List Ty) (ty : Ty) (vs : List Val) (l : List Read) → HasType env vars x ty → IsTotal env vars x → AreOf env vars vs → Both (IsOf env ty) (core vs (core_of env vars x) l) (means vs x l)
    value_both (t.var n) vars ty vs l h total are = given_both env ty (slice_get vs n) l (are_at env vars vs n ty are h)
    value_both (t.flag c) vars ty vs l h total are = taken_as env ty Flag (o.gives (v.flag c) l) (o.gives (v.flag c) l) h (refl, flag_of env c)
    value_both (t.word w n) vars ty vs l h total are = taken_as env ty (Word w) (o.gives (v.word w n) l) (o.gives (v.word w n) l) h.2 (refl, word_of env w n (width_to w h.0) h.1)
    value_both (t.un op w x) vars ty vs l h total are =
        taken_as env ty (Word w) _ _ h.1
        (bind_both (IsOf env (Word w)) (IsOf env (Word w)) _ _ _ _ (value_both x vars (Word w) vs l h.0 total are) (λ p l hp. given_both env (Word w) (unary op w p) l (unary_there env op w p hp)))
    value_both (t.bin op w x y) vars ty vs l h total are =
        taken_as env ty (Word w) _ _ h.2
        (bind_both (IsOf env (Word w)) (IsOf env (Word w)) _ _ _ _ (value_both x vars (Word w) vs l h.0 total.0 are) (λ p l hp.
        bind_both (IsOf env (Word w)) (IsOf env (Word w)) _ _ _ _ (value_both y vars (Word w) vs l h.1 total.1 are) (λ q l hq. given_both env (Word w) (binary op w p q) l (binary_there env op w p q hp hq))))
    value_both (t.test c w x y) vars ty vs l h total are =
        taken_as env ty Flag _ _ h.2
        (bind_both (IsOf env (Word w)) (IsOf env Flag) _ _ _ _ (value_both x vars (Word w) vs l h.0 total.0 are) (λ p l hp.
        bind_both (IsOf env (Word w)) (IsOf env Flag) _ _ _ _ (value_both y vars (Word w) vs l h.1 total.1 are) (λ q l hq. given_both env Flag (compared c w p q) l (compared_there env c w p q hp hq))))
    value_both (t.cast kind from to x) vars ty vs l h total are =
        taken_as env ty (Word to) _ _ h.3
        (bind_both (IsOf env (Word from)) (IsOf env (Word to)) _ _ _ _ (value_both x vars (Word from) vs l h.0 total are) (λ p l hp. given_both env (Word to) (resized kind from to p) l (resized_there env kind from to p hp h.1 h.2)))
    value_both (t.let_in x body) vars ty vs l h total are =
        let from = type_in env vars x in
        let same = total.1 h.0 h.1 in
        bind_both (IsOf env from) (IsOf env ty) _ _ _ _ (value_both x vars from vs l (subst (λ z. HasType env vars x z) (sym same) h.1) total.0 are) (λ p l hp.
        value_both body (vars ++ from ∷ []) ty (vs ++ p ∷ []) l (subst (λ z. HasType env (vars ++ z ∷ []) body ty) (sym same) h.2) total.2 (are_append env vars (from ∷ []) vs (p ∷ []) are (hp, tt)))
    value_both (t.if_else c x y) vars ty vs l h total are =
        bind_both (IsOf env Flag) (IsOf env ty) _ _ _ _ (value_both c vars Flag vs l h.0 total.0 are) (λ p l hp.
        branch_both (IsOf env ty) p _ _ _ _ (value_both x vars ty vs l h.1 total.1 are) (value_both y vars ty vs l h.2 total.2 are))
    value_both (t.match_on x arms) vars ty vs l h total are =
        let from = type_in env vars x in
        let same = total.1 h.0 h.1 in
        bind_both (IsOf env from) (IsOf env ty) _ _ _ _ (value_both x vars from vs l (subst (λ z. HasType env vars x z) (sym same) h.1) total.0 are) (λ p l hp.
        let c = total.2 p hp.has in
        arm_chosen (IsOf env ty) p c.0 (picks (decision_of env from arms) (shown p)) (λ r more. core_arm env.maps group g calls a vs (arms_of env vars from arms) r more l) (den_arms env.maps outer a vs p arms l) c.2
        (arms_both arms vars from ty vs p l (subst (λ z. ArmsHaveType env vars z arms ty) (sym same) h.2) total.3 are hp 0 c.0 c.1))
    value_both (t.make d c args) vars ty vs l h total are =
        taken_as env ty (DataTy d) _ _ h.1
        (bind_both (AreOf env (fields_at (case_at env (DataTy d) c))) (IsOf env (DataTy d)) _ _ _ _ (all_both args vars (fields_at (case_at env (DataTy d) c)) vs l h.0 total.1 are) (λ ps l q.
        (refl, make_of env wf d c (case_at env (DataTy d) c) ps refl total.0 q)))
    value_both (t.call f args) vars ty vs l h total are =
        taken_as env ty h.0.result_type _ _ h.3
        (bind_both (AreOf env h.0.params) (IsOf env h.0.result_type) _ _ _ _ (all_both args vars h.0.params vs l h.2 total are) (λ ps l q.
        either_both (IsOf env h.0.result_type) (group f == g) _ _ _ _ (refl, tt) (alike f h.0 ps l h.1 q)))
    value_both (t.get m x key) vars ty vs l h total are =
        let d = map_at env.maps m h.0 in
        taken_as env ty (value_type env m) _ _ h.3
        (bind_both (IsOf env (MapOf m)) (IsOf env (value_type env m)) _ _ _ _ (value_both x vars (MapOf m) vs l h.1 total.0 are) (λ p l hp.
        bind_both (IsOf env (key_type env m)) (IsOf env (value_type env m)) _ _ _ _ (value_both key vars (key_type env m) vs l h.2 total.1 are) (λ q l hq.
        seen_both env (value_type env m) (accessed env.maps m p q) l (accessed_there env maps m d.0 d.1 p q hp hq))))
    value_both (t.put m x key y) vars ty vs l h total are =
        let d = map_at env.maps m h.0 in
        taken_as env ty (MapOf m) _ _ h.4
        (bind_both (IsOf env (MapOf m)) (IsOf env (MapOf m)) _ _ _ _ (value_both x vars (MapOf m) vs l h.1 total.0 are) (λ p l hp.
        bind_both (IsOf env (key_type env m)) (IsOf env (MapOf m)) _ _ _ _ (value_both key vars (key_type env m) vs l h.2 total.1 are) (λ q l hq.
        bind_both (IsOf env (value_type env m)) (IsOf env (MapOf m)) _ _ _ _ (value_both y vars (value_type env m) vs l h.3 total.2 are) (λ n l hn.
        given_both env (MapOf m) (updated env.maps a m p q n) l (updated_there env maps m d.0 d.1 a p q n hp hq hn)))))

    pub all_both : (xs : Terms) (vars tys : List Ty) (vs : List Val) (l : List Read) → HaveTypes env vars xs tys → AreTotal env vars xs → AreOf env vars vs → Both (AreOf env tys) (cores vs (cores_of env vars xs) l) (den_all env.maps outer a vs xs l)
    all_both t.no_term vars [] vs l h total are = (refl, tt)
    all_both t.no_term vars (ty ∷ tys) vs l h total are = absurd h
    all_both (t.term_then x xs) vars [] vs l h total are = absurd h
    all_both (t.term_then x xs) vars (ty ∷ tys) vs l h total are =
        bind_both (IsOf env ty) (AreOf env (ty ∷ tys)) _ _ _ _ (value_both x vars ty vs l h.0 total.0 are) (λ p l hp.
        bind_both (AreOf env tys) (AreOf env (ty ∷ tys)) _ _ _ _ (all_both xs vars tys vs l h.1 total.1 are) (λ ps l hs. (refl, (hp, hs))))

    arms_both : (arms : Arms) (vars : List Ty) (from ty : Ty) (vs : List Val) (p : Val) (l : List Read) → ArmsHaveType env vars from arms ty → AreTotalArms env vars from arms → AreOf env vars vs → IsOf env from p
        → (n : ℕ) (c : Choice) → first_match (numbered n (patterns_of arms)) (shown p) ≡ Some c
        → Taken (IsOf env ty) (λ r more. core_arm env.maps group g calls a vs (arms_of env vars from arms) r more l) p n c (den_arms env.maps outer a vs p arms l)
    arms_both t.no_arm vars from ty vs p l h total are q n c e = absurd cc
    arms_both (t.arm_then pat body rest) vars from ty vs p l h total are q n c e =
        let more = variable_types env from pat in
        let types = variables_have env (length vars) from pat h.0 h.1 in
        arm_taken (IsOf env ty) pat p n c (λ r more. core_arm env.maps group g calls a vs (core_then (core_of env (vars ++ variable_types env from pat) body) (arms_of env vars from rest)) r more l)
        (means (vs ++ bound pat p) body l) (den_arms env.maps outer a vs p rest l) (first_match (numbered (n + 1) (patterns_of rest)) (shown p))
        (λ met. value_both body (vars ++ more) ty (vs ++ bound pat p) l (subst (λ zs. HasType env (vars ++ zs) body ty) (sym types) h.2) total.0 (behind env wf vars from vs p pat h.0 are q h.1 met))
        (λ k. arms_both rest vars from ty vs p l h.3 total.1 are q (n + 1) c k)
        (meets pat (shown p)) refl e
