-- Core terms of typed terms have their variables in scope.
use Rattle.std.proofs.Common.{◌≡◌, ℕ, zero, suc, ◌+◌, ◌<◌, arith, ap, length-append, option_map, Bool, true, Option, Some, None, List, [], ◌∷◌, ◌++◌, length, slice_get, refl, sym, ◌∙◌, subst}
use Rattle.std.specs.Prelude.{is_some}
use Rattle.std.specs.List.{list_all}
use Rattle.std.proofs.lemmas.Bool.{false≢true}
use Rattle.std.proofs.lemmas.List.Folds.{list_all-append}
use Rattle.std.proofs.lemmas.Option.{same_Some as some_same, slice_get-map, slice_get_within}
use Rattle.spec_match_compiler.specs.Values.{Place}
use Rattle.spec_match_compiler.specs.Patterns.{Pattern, Patterns, any, bind, flag_is, word_is, case_is, no_pat, pat_then}
use Rattle.spec_match_compiler.specs.Meets.{bindings}
use Rattle.spec_match_compiler.proofs.Truth.{and_left, and_right, both}
use Rattle.spec_ir.specs.declared.ty.Ty.{Ty}
use Rattle.spec_ir.specs.declared.ty.Ty.TheVariants.{Bool as Flag, Word, Data as DataTy, Map as MapOf}
use Rattle.spec_ir.specs.Environment.{Environment, Case, Signature, key_type, value_type, value_of}
use Rattle.spec_ir.specs.Texts.{case_at, fields_at}
use Rattle.spec_ir.specs.Terms as t
use Rattle.spec_ir.specs.Terms.{Term, Terms, Arms, patterns_of}
use Rattle.spec_ir.specs.TermTypes.{PatternTyped, PatternsTyped, HasType, HaveTypes, ArmsHaveType}
use Rattle.spec_ir.specs.Cores.{core_of, cores_of, arms_of, variable_types, type_in}
use Rattle.spec_ir.specs.WellFormed.{IsWellFormed, is_width, is_type, is_signature}
use Rattle.spec_ir.proofs.Lists.{all_at}
use Rattle.semantics_values.specs.Types.{environment_of}
use Rattle.semantics_laws.specs.Total.{AreDecided, IsTotal, AreTotal, AreTotalArms, decision_of}
use Rattle.semantics_laws.proofs.Values.{width_to}
use Rattle.semantics_laws.proofs.Bound.{variables_have, fields_are, data_is}
use Rattle.semantics_laws.proofs.Terms.{map_at}
use Rattle.semantics_laws.proofs.NamedTypes.{names_typed}
use Rattle.eval_code_accepted.proofs.Taken.{rows_of, rows_taken}
use Rattle.eval_code_accepted.specs.Laws.{AcceptedTermsAreInScope}
use Rattle.eval_code.specs.Scopes.{AllInScope, ArmInScope, InScope}
use Rattle.eval_code.specs.Lowered.{taken}
use Rattle.eval_code_accepted.proofs.Lengths.{all_of_long}
use Rattle.semantics_laws.specs.Places.{type_at}
use Rattle.spec_ir.specs.Specification.{Fun}
use Rattle.semantics_laws.proofs.Chosen.{some_row, decision_right}

module _ (env : Environment) (wf : IsWellFormed env) where
  abbrev are_types : List Ty → Bool
  are_types ts = list_all (is_type env) ts

  types_append : (ts us : List Ty) → are_types ts ≡ true → are_types us ≡ true → are_types (ts ++ us) ≡ true
  types_append ts us h k = list_all-append (is_type env) ts us ∙ both (are_types ts) (are_types us) h k

  -- ---- the types of a pattern's variables are types of the environment
  fields_of : (d c : ℕ) (o : Option Case) → case_at env (DataTy d) c ≡ o → are_types (fields_at o) ≡ true
  fields_of d c None e = refl
  fields_of d c (Some case) e = fields_are env wf d c case e

  mutual
    variables_are : (n : ℕ) (ty : Ty) (p : Pattern) (vars : List Ty) → PatternTyped env n ty p vars → is_type env ty ≡ true → are_types vars ≡ true
    variables_are n ty any vars h is = subst (λ z. are_types z ≡ true) (sym h) refl
    variables_are n ty (bind m) vars h is = subst (λ z. are_types z ≡ true) (sym h.1) (both (is_type env ty) true is refl)
    variables_are n Flag (flag_is b) vars h is = subst (λ z. are_types z ≡ true) (sym h) refl
    variables_are n (Word w) (word_is x) vars h is = subst (λ z. are_types z ≡ true) (sym h.1) refl
    variables_are n (DataTy d) (case_is c ps) vars h is = all_are n (fields_at (case_at env (DataTy d) c)) ps vars h (fields_of d c (case_at env (DataTy d) c) refl)
    variables_are n ty p vars h is = absurd h

    all_are : (n : ℕ) (ts : List Ty) (ps : Patterns) (vars : List Ty) → PatternsTyped env n ts ps vars → are_types ts ≡ true → are_types vars ≡ true
    all_are n [] no_pat vars h is = subst (λ z. are_types z ≡ true) (sym h) refl
    all_are n (ty ∷ ts) (pat_then p ps) vars h is =
        let here = variables_are n ty p h.0 h.2 (and_left (is_type env ty) (are_types ts) is) in
        let later = all_are _ ts ps h.1 h.3 (and_right (is_type env ty) (are_types ts) is) in
        subst (λ z. are_types z ≡ true) (sym h.4) (types_append h.0 h.1 here later)
    all_are n ts ps vars h is = absurd h

  -- ---- terms
  -- A core term has its variables in scope; its type is one of the environment.
  record IsCored (vars : List Ty) (x : Term) (ty : Ty) : Type 0 where
    scope : InScope (length vars) (core_of env vars x)
    is : is_type env ty ≡ true

  same_type : (s u : Ty) → s ≡ u → is_type env u ≡ true → is_type env s ≡ true
  same_type s u e h = subst (λ z. is_type env z ≡ true) (sym e) h

  longer : (vars more : List Ty) → length (vars ++ more) ≡ length vars + length more
  longer vars more = length-append vars more

  -- how many variables the pattern of an arm has
  abbrev count_of : Option Pattern → ℕ
  count_of None = 0
  count_of (Some p) = length (bindings [] p)

  abbrev names_of : Arms → ℕ → ℕ
  names_of arms r = count_of (slice_get (patterns_of arms) r)

  -- what is to be shown of the row of an arm
  record RowRight (vars : List Ty) (from : Ty) (arms : Arms) (r : ℕ) (binds : List (ℕ × Place)) : Type 0 where
    named : length binds ≡ names_of arms r
    arm : ArmInScope (length vars + length binds) (arms_of env vars from arms) r

  -- an arm, by its number
  record IsArm (vars : List Ty) (from : Ty) (arms : Arms) (ty : Ty) (r : ℕ) (p : Pattern) : Type 0 where
    arm : ArmInScope (length vars + length (bindings [] p)) (arms_of env vars from arms) r
    n : ℕ
    named : List Ty
    typed : PatternTyped env n from p named
    is : is_type env ty ≡ true

  case_is_there : (d c : ℕ) (o : Option Case) → case_at env (DataTy d) c ≡ o → is_some o ≡ true → is_type env (DataTy d) ≡ true
  case_is_there d c None e h = absurd (false≢true h)
  case_is_there d c (Some case) e h = data_is env wf d c case e

  value_is : (m : ℕ) → m < length env.maps → is_type env (value_type env m) ≡ true
  value_is m h =
      let d = map_at env.maps m h in
      subst (λ o. is_type env (value_of o) ≡ true) (sym d.1) (all_at (λ d. is_width d.width) env.maps m d.0 wf.values d.1)

  result_is : (f : ℕ) (s : Signature) → slice_get env.funs f ≡ Some s → is_type env s.result_type ≡ true
  result_is f s h = and_right (are_types s.params) (is_type env s.result_type) (all_at (is_signature env) env.funs f s wf.signatures h)

  -- a match of arms that are right
  match_cored : (vars : List Ty) (x : Term) (arms : Arms) (ty : Ty) → IsCored vars x (type_in env vars x) → AreDecided env (type_in env vars x) arms
      → ((r : ℕ) (p : Pattern) → slice_get (patterns_of arms) r ≡ Some p → IsArm vars (type_in env vars x) arms ty r p) → IsCored vars (t.match_on x arms) ty
  match_cored vars x arms ty h all each =
      let from = type_in env vars x in
      let P : ℕ → List (ℕ × Place) → Type 0 = RowRight vars from arms in
      let some = (some_row env wf P from h.is arms all).1 in
      let decides = decision_right env wf P from h.is arms all (λ r p e. let k = each r p e in (record { named = ap count_of (sym e); arm = k.arm }, (k.n, k.named, k.typed))) in
      record {
        scope = (
          h.scope,
          rows_taken (names_of arms) P (λ r binds. (length binds ≡ taken r (decision_of env from arms)) × ArmInScope (length vars + length binds) (arms_of env vars from arms) r) (λ r binds k. k.named)
              (decision_of env from arms) (rows_of env P from (decision_of env from arms) decides) (λ r binds k e. (e, k.arm)),
        );
        is = (each some.k some.pattern some.there).is;
      }

  mutual
    cored : (x : Term) (vars : List Ty) (ty : Ty) → HasType env vars x ty → IsTotal env vars x → are_types vars ≡ true → IsCored vars x ty
    cored (t.var n) vars ty h g all = record { scope = slice_get_within vars n ty h; is = all_at (is_type env) vars n ty all h }
    cored (t.flag b) vars ty h g all = record { scope = tt; is = same_type ty Flag h refl }
    cored (t.word w n) vars ty h g all = record { scope = tt; is = same_type ty (Word w) h.2 (width_to w h.0) }
    cored (t.un op w x) vars ty h g all =
        let kx = cored x vars (Word w) h.0 g all in
        record { scope = kx.scope; is = same_type ty (Word w) h.1 kx.is }
    cored (t.bin op w x y) vars ty h g all =
        let kx = cored x vars (Word w) h.0 g.0 all in
        let ky = cored y vars (Word w) h.1 g.1 all in
        record { scope = (kx.scope, ky.scope); is = same_type ty (Word w) h.2 kx.is }
    cored (t.test c w x y) vars ty h g all =
        let kx = cored x vars (Word w) h.0 g.0 all in
        let ky = cored y vars (Word w) h.1 g.1 all in
        record { scope = (kx.scope, ky.scope); is = same_type ty Flag h.2 refl }
    cored (t.cast kind from to x) vars ty h g all =
        let kx = cored x vars (Word from) h.0 g all in
        record { scope = kx.scope; is = same_type ty (Word to) h.3 (width_to to h.1) }
    cored (t.let_in x body) vars ty h g all =
        let from = type_in env vars x in
        let same = g.1 h.0 h.1 in
        let kx = cored x vars from (subst (λ z. HasType env vars x z) (sym same) h.1) g.0 all in
        let kb = cored body (vars ++ from ∷ []) ty (subst (λ z. HasType env (vars ++ z ∷ []) body ty) (sym same) h.2) g.2 (types_append vars (from ∷ []) all (both (is_type env from) true kx.is refl)) in
        let one : length (vars ++ from ∷ []) ≡ suc (length vars) = longer vars (from ∷ []) ∙ omega arith in
        record { scope = (kx.scope, subst (λ n. InScope n (core_of env (vars ++ from ∷ []) body)) one kb.scope); is = kb.is }
    cored (t.if_else c x y) vars ty h g all =
        let kc = cored c vars Flag h.0 g.0 all in
        let kx = cored x vars ty h.1 g.1 all in
        let ky = cored y vars ty h.2 g.2 all in
        record { scope = (kc.scope, kx.scope, ky.scope); is = kx.is }
    cored (t.match_on x arms) vars ty h g all =
        let from = type_in env vars x in
        let same = g.1 h.0 h.1 in
        let kx = cored x vars from (subst (λ z. HasType env vars x z) (sym same) h.1) g.0 all in
        match_cored vars x arms ty kx g.2 (λ r p e. arms_cored arms vars from ty (subst (λ z. ArmsHaveType env vars z arms ty) (sym same) h.2) g.3 all kx.is r p e)
    cored (t.make d c args) vars ty h g all =
        record { scope = all_cored args vars (fields_at (case_at env (DataTy d) c)) h.0 g.1 all; is = same_type ty (DataTy d) h.1 (case_is_there d c (case_at env (DataTy d) c) refl g.0) }
    cored (t.call f args) vars ty h g all =
        record { scope = all_cored args vars h.0.params h.2 g all; is = same_type ty h.0.result_type h.3 (result_is f h.0 h.1) }
    cored (t.get m x key) vars ty h g all =
        let kx = cored x vars (MapOf m) h.1 g.0 all in
        let kk = cored key vars (key_type env m) h.2 g.1 all in
        record { scope = (kx.scope, kk.scope); is = same_type ty (value_type env m) h.3 (value_is m h.0) }
    cored (t.put m x key y) vars ty h g all =
        let kx = cored x vars (MapOf m) h.1 g.0 all in
        let kk = cored key vars (key_type env m) h.2 g.1 all in
        let ky = cored y vars (value_type env m) h.3 g.2 all in
        record { scope = (kx.scope, kk.scope, ky.scope); is = same_type ty (MapOf m) h.4 kx.is }

    all_cored : (xs : Terms) (vars tys : List Ty) → HaveTypes env vars xs tys → AreTotal env vars xs → are_types vars ≡ true → AllInScope (length vars) (cores_of env vars xs)
    all_cored t.no_term vars tys h g all = tt
    all_cored (t.term_then x xs) vars [] h g all = absurd h
    all_cored (t.term_then x xs) vars (ty ∷ tys) h g all = ((cored x vars ty h.0 g.0 all).scope, all_cored xs vars tys h.1 g.1 all)

    arms_cored : (arms : Arms) (vars : List Ty) (from ty : Ty) → ArmsHaveType env vars from arms ty → AreTotalArms env vars from arms → are_types vars ≡ true → is_type env from ≡ true
        → (r : ℕ) (p : Pattern) → slice_get (patterns_of arms) r ≡ Some p → IsArm vars from arms ty r p
    arms_cored t.no_arm vars from ty h g all is r p e = absurd cc
    arms_cored (t.arm_then pat body rest) vars from ty h g all is zero p e =
        let same : pat ≡ p = some_same pat p e in
        let types = variables_have env (length vars) from pat h.0 h.1 in
        let more = variable_types env from pat in
        let named : PatternTyped env (length vars) from pat more = subst (λ zs. PatternTyped env (length vars) from pat zs) (sym types) h.1 in
        let kb = cored body (vars ++ more) ty (subst (λ zs. HasType env (vars ++ zs) body ty) (sym types) h.2) g.0 (types_append vars more all (variables_are (length vars) from pat more named is)) in
        let long : length more ≡ length (bindings [] pat) = all_of_long (λ b. type_at env from b.1) (bindings [] pat) more (names_typed env (length vars) from pat more named) in
        subst (λ z. IsArm vars from (t.arm_then pat body rest) ty 0 z) same (record {
          arm = subst (λ n. InScope n (core_of env (vars ++ more) body)) (longer vars more ∙ ap (λ z. length vars + z) long) kb.scope;
          n = length vars;
          named = more;
          typed = named;
          is = kb.is;
        })
    arms_cored (t.arm_then pat body rest) vars from ty h g all is (suc r) p e =
        let arm = arms_cored rest vars from ty h.3 g.1 all is r p e in
        record { arm = arm.arm; n = arm.n; named = arm.named; typed = arm.typed; is = arm.is }

  pub in_scope : (x : Term) (vars : List Ty) (ty : Ty) → HasType env vars x ty → IsTotal env vars x → are_types vars ≡ true → InScope (length vars) (core_of env vars x)
  in_scope x vars ty h g all = (cored x vars ty h g all).scope

-- the signature of a function
abbrev signature_of : Fun → Signature
signature_of f = record { name = f.name; params = f.params; result_type = f.result_type }

pub accepted_terms_are_in_scope : AcceptedTermsAreInScope
accepted_terms_are_in_scope spec f fun ok e =
    let right = ok.right f fun e in
    let there : slice_get (environment_of spec).funs f ≡ Some (signature_of fun) = slice_get-map signature_of spec.funs f ∙ ap (option_map signature_of) e in
    let params = and_left (list_all (is_type (environment_of spec)) fun.params) (is_type (environment_of spec) fun.result_type) (all_at (is_signature (environment_of spec)) (environment_of spec).funs f (signature_of fun) ok.types.signatures there) in
    subst (λ x. InScope (length fun.params) x) (sym right.core) (in_scope (environment_of spec) ok.types fun.body fun.params fun.result_type right.typed right.total params)
