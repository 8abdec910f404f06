-- Calls of core terms are in order where those of the terms are.
use Rattle.std.proofs.Common.{◌≡◌, ◌⊎◌, ℕ, ◌<◌, true, false, List, ◌∷◌, [], ◌++◌, sym, ap, subst, inl, inr}
use Rattle.std.proofs.lemmas.Bool.{false≢true}
use Rattle.spec_ir.specs.declared.ty.Ty.{Ty}
use Rattle.spec_ir.specs.Environment.{Environment}
use Rattle.spec_ir.specs.Terms as t
use Rattle.spec_ir.specs.Terms.{Term, Terms, Arms}
use Rattle.spec_ir.specs.Cores.{core_of, cores_of, arms_of, variable_types, type_in}
use Rattle.spec_calls.specs.declared.call.Call.{Call}
use Rattle.spec_calls.specs.Calls as k
use Rattle.spec_calls.specs.Calls.{call_of, all_calls, arm_calls}
use Rattle.semantics_values.specs.Types.{environment_of}
use Rattle.semantics.specs.Direct.{group_of, group_at}
use Rattle.semantics_laws.specs.Accepted.{IsInOrder}
use Rattle.semantics_laws.proofs.Terms.{Each, each_left, each_right}
use Rattle.semantics_laws.proofs.Turns.{each_from}
use Rattle.semantics_laws.specs.CoreCalls.{CallsBelow, AllCallBelow, CallsInOrder, AllCallInOrder}
use Rattle.semantics_laws.specs.Laws.{CoresCallInOrder}

module _ (env : Environment) (group rank : ℕ → ℕ) (g : ℕ) where
  abbrev pub InOrder : Call → Type 0
  InOrder c = ((group c.fun ≡ g) × (c.tail ≡ true)) ⊎ (rank (group c.fun) < rank g)

  lower : (f : ℕ) → InOrder (call_of f false) → rank (group f) < rank g
  lower f (inl h) = absurd (false≢true h.1)
  lower f (inr h) = h

  lower_or_own : (f : ℕ) → InOrder (call_of f true) → (group f ≡ g) ⊎ (rank (group f) < rank g)
  lower_or_own f (inl h) = inl h.0
  lower_or_own f (inr h) = inr h

  mutual
    below : (x : Term) (vars : List Ty) → Each InOrder (k.calls false x) → CallsBelow group rank g (core_of env vars x)
    below (t.var n) vars h = tt
    below (t.flag b) vars h = tt
    below (t.word w v) vars h = tt
    below (t.un op w x) vars h = below x vars h
    below (t.bin op w x y) vars h = (below x vars (each_left InOrder (k.calls false x) (k.calls false y) h), below y vars (each_right InOrder (k.calls false x) (k.calls false y) h))
    below (t.test c w x y) vars h = (below x vars (each_left InOrder (k.calls false x) (k.calls false y) h), below y vars (each_right InOrder (k.calls false x) (k.calls false y) h))
    below (t.cast kind from to x) vars h = below x vars h
    below (t.let_in x y) vars h =
        (below x vars (each_left InOrder (k.calls false x) (k.calls false y) h), below y (vars ++ type_in env vars x ∷ []) (each_right InOrder (k.calls false x) (k.calls false y) h))
    below (t.if_else c x y) vars h =
        let front = each_left InOrder (k.calls false c ++ k.calls false x) (k.calls false y) h in (
          below c vars (each_left InOrder (k.calls false c) (k.calls false x) front),
          below x vars (each_right InOrder (k.calls false c) (k.calls false x) front),
          below y vars (each_right InOrder (k.calls false c ++ k.calls false x) (k.calls false y) h),
        )
    below (t.match_on x arms) vars h =
        (below x vars (each_left InOrder (k.calls false x) (arm_calls false arms) h), arms_below arms vars (type_in env vars x) (each_right InOrder (k.calls false x) (arm_calls false arms) h))
    below (t.make d c args) vars h = all_below args vars h
    below (t.call f args) vars h =
        (lower f (each_right InOrder (all_calls args) (call_of f false ∷ []) h).0, all_below args vars (each_left InOrder (all_calls args) (call_of f false ∷ []) h))
    below (t.get m x y) vars h = (below x vars (each_left InOrder (k.calls false x) (k.calls false y) h), below y vars (each_right InOrder (k.calls false x) (k.calls false y) h))
    below (t.put m x y z) vars h =
        let front = each_left InOrder (k.calls false x ++ k.calls false y) (k.calls false z) h in (
          below x vars (each_left InOrder (k.calls false x) (k.calls false y) front),
          below y vars (each_right InOrder (k.calls false x) (k.calls false y) front),
          below z vars (each_right InOrder (k.calls false x ++ k.calls false y) (k.calls false z) h),
        )

    all_below : (xs : Terms) (vars : List Ty) → Each InOrder (all_calls xs) → AllCallBelow group rank g (cores_of env vars xs)
    all_below t.no_term vars h = tt
    all_below (t.term_then x xs) vars h =
        (below x vars (each_left InOrder (k.calls false x) (all_calls xs) h), all_below xs vars (each_right InOrder (k.calls false x) (all_calls xs) h))

    arms_below : (arms : Arms) (vars : List Ty) (from : Ty) → Each InOrder (arm_calls false arms) → AllCallBelow group rank g (arms_of env vars from arms)
    arms_below t.no_arm vars from h = tt
    arms_below (t.arm_then p x rest) vars from h = (
      below x (vars ++ variable_types env from p) (each_left InOrder (k.calls false x) (arm_calls false rest) h),
      arms_below rest vars from (each_right InOrder (k.calls false x) (arm_calls false rest) h),
    )

  mutual
    pub in_order : (x : Term) (vars : List Ty) → Each InOrder (k.calls true x) → CallsInOrder group rank g (core_of env vars x)
    in_order (t.let_in x y) vars h =
        (below x vars (each_left InOrder (k.calls false x) (k.calls true y) h), in_order y (vars ++ type_in env vars x ∷ []) (each_right InOrder (k.calls false x) (k.calls true y) h))
    in_order (t.if_else c x y) vars h =
        let front = each_left InOrder (k.calls false c ++ k.calls true x) (k.calls true y) h in (
          below c vars (each_left InOrder (k.calls false c) (k.calls true x) front),
          in_order x vars (each_right InOrder (k.calls false c) (k.calls true x) front),
          in_order y vars (each_right InOrder (k.calls false c ++ k.calls true x) (k.calls true y) h),
        )
    in_order (t.match_on x arms) vars h =
        (below x vars (each_left InOrder (k.calls false x) (arm_calls true arms) h), arms_in_order arms vars (type_in env vars x) (each_right InOrder (k.calls false x) (arm_calls true arms) h))
    in_order (t.call f args) vars h =
        (lower_or_own f (each_right InOrder (all_calls args) (call_of f true ∷ []) h).0, all_below args vars (each_left InOrder (all_calls args) (call_of f true ∷ []) h))
    in_order (t.var n) vars h = tt
    in_order (t.flag b) vars h = tt
    in_order (t.word w v) vars h = tt
    in_order (t.un op w x) vars h = below (t.un op w x) vars h
    in_order (t.bin op w x y) vars h = below (t.bin op w x y) vars h
    in_order (t.test c w x y) vars h = below (t.test c w x y) vars h
    in_order (t.cast kind from to x) vars h = below (t.cast kind from to x) vars h
    in_order (t.make d c args) vars h = below (t.make d c args) vars h
    in_order (t.get m x y) vars h = below (t.get m x y) vars h
    in_order (t.put m x y z) vars h = below (t.put m x y z) vars h

    arms_in_order : (arms : Arms) (vars : List Ty) (from : Ty) → Each InOrder (arm_calls true arms) → AllCallInOrder group rank g (arms_of env vars from arms)
    arms_in_order t.no_arm vars from h = tt
    arms_in_order (t.arm_then p x rest) vars from h = (
      in_order x (vars ++ variable_types env from p) (each_left InOrder (k.calls true x) (arm_calls true rest) h),
      arms_in_order rest vars from (each_right InOrder (k.calls true x) (arm_calls true rest) h),
    )

pub cores_call_in_order : CoresCallInOrder
cores_call_in_order spec ok f fun e =
    let right = ok.right f fun e in
    let same : group_of spec f ≡ fun.group = ap group_at e in
    let env = environment_of spec in
    let each = each_from (IsInOrder spec ok.rank f) (k.calls true fun.body) right.calls_in_order in
    let all = in_order env (group_of spec) ok.rank (group_of spec f) fun.body fun.params each in
    subst (λ g. CallsInOrder (group_of spec) ok.rank g fun.core) same (subst (λ x. CallsInOrder (group_of spec) ok.rank (group_of spec f) x) (sym right.core) all)
