-- A call in tail position has the type of the whole, so functions of one group have one type of results.
use Rattle.std.proofs.Common.{◌≡◌, ℕ, zero, suc, ◌<◌, Bool, true, false, Option, Some, None, option_map, List, [], ◌∷◌, ◌++◌, length, map, get_or, slice_get, unwrap_or, refl, sym, ap, ◌∙◌, subst, inl, inr, arith}
use Rattle.std.proofs.lemmas.Bool.{false≢true}
use Rattle.std.proofs.lemmas.Option.{slice_get-map, unwrap_or-slice_get, same_Some as same_signature}
use Rattle.std.proofs.lemmas.List.{length-map}
use Rattle.support_reachability.specs.Graph.{Reaches, edge, onward}
use Rattle.support_reachability.proofs.Ranks.{joined}
use Rattle.spec_ir.specs.declared.ty.Ty.{Ty}
use Rattle.spec_ir.specs.Environment.{Environment, Signature}
use Rattle.spec_ir.specs.Terms.{Term, Terms, Arms, var, flag, word, un, bin, test, cast, let_in, if_else, match_on, make, call, get, put, no_term, term_then, no_arm, arm_then}
use Rattle.spec_ir.specs.TermTypes.{HasType, ArmsHaveType}
use Rattle.spec_calls.specs.declared.call.Call.{Call}
use Rattle.spec_calls.specs.Calls.{calls, all_calls, arm_calls, call_of, call_graph}
use Rattle.spec_calls.specs.Groups.{InOneGroup, CallsTo}
use Rattle.spec_calls.specs.Recursion.{NoRecursionFault}
use Rattle.semantics_accepted.specs.Typed.{AreTyped}
use Rattle.semantics_accepted.specs.Laws.{GroupsHaveOneResult}

-- ---- what holds of each call
abbrev pub Each : (Call → Type 0) → List Call → Type 0
Each P [] = Unit {0}
Each P (c ∷ cs) = P c × Each P cs

each_append : (P : Call → Type 0) (xs ys : List Call) → Each P xs → Each P ys → Each P (xs ++ ys)
each_append P [] ys h k = k
each_append P (c ∷ cs) ys h k = (h.0, each_append P cs ys h.1 k)

each_at : (P : Call → Type 0) (xs : List Call) (k : ℕ) (d c : Call) → Each P xs → k < length xs → get_or xs k d ≡ c → P c
each_at P [] k d c h l e = absurd (omega (arith, l))
each_at P (x ∷ xs) zero d c h l e = subst P e h.0
each_at P (x ∷ xs) (suc k) d c h l e = each_at P xs k d c h.1 (omega (arith, l)) e

each_more : (P Q : Call → Type 0) (xs : List Call) → ((c : Call) → P c → Q c) → Each P xs → Each Q xs
each_more P Q [] f h = tt
each_more P Q (c ∷ cs) f h = (f c h.0, each_more P Q cs f h.1)

abbrev IsInner : Call → Type 0
IsInner c = c.tail ≡ false

-- outside tail position no call stands in it
mutual
  inner : (t : Term) → Each IsInner (calls false t)
  inner (var n) = tt
  inner (flag b) = tt
  inner (word w v) = tt
  inner (un op w x) = inner x
  inner (bin op w x y) = each_append IsInner (calls false x) (calls false y) (inner x) (inner y)
  inner (test c w x y) = each_append IsInner (calls false x) (calls false y) (inner x) (inner y)
  inner (cast kind from to x) = inner x
  inner (let_in x body) = each_append IsInner (calls false x) (calls false body) (inner x) (inner body)
  inner (if_else c x y) = each_append IsInner (calls false c ++ calls false x) (calls false y) (each_append IsInner (calls false c) (calls false x) (inner c) (inner x)) (inner y)
  inner (match_on x arms) = each_append IsInner (calls false x) (arm_calls false arms) (inner x) (inner_arms arms)
  inner (make ty k args) = inner_all args
  inner (call f args) = each_append IsInner (all_calls args) (call_of f false ∷ []) (inner_all args) (refl, tt)
  inner (get m x k) = each_append IsInner (calls false x) (calls false k) (inner x) (inner k)
  inner (put m x k v) = each_append IsInner (calls false x ++ calls false k) (calls false v) (each_append IsInner (calls false x) (calls false k) (inner x) (inner k)) (inner v)

  inner_all : (ts : Terms) → Each IsInner (all_calls ts)
  inner_all no_term = tt
  inner_all (term_then t ts) = each_append IsInner (calls false t) (all_calls ts) (inner t) (inner_all ts)

  inner_arms : (arms : Arms) → Each IsInner (arm_calls false arms)
  inner_arms no_arm = tt
  inner_arms (arm_then p t rest) = each_append IsInner (calls false t) (arm_calls false rest) (inner t) (inner_arms rest)

module _ (env : Environment) where
  -- function f gives this type
  abbrev Gives : Ty → ℕ → Type 0
  Gives ty f = (s : Signature) × (slice_get env.funs f ≡ Some s) × (s.result_type ≡ ty)

  -- a call in tail position is of a function that gives the type
  abbrev TailGives : Ty → Call → Type 0
  TailGives ty c = c.tail ≡ true → Gives ty c.fun

  from_inner : (ty : Ty) (xs : List Call) → Each IsInner xs → Each (TailGives ty) xs
  from_inner ty xs h = each_more IsInner (TailGives ty) xs (λ c e t. absurd (false≢true (sym e ∙ t))) h

  mutual
    tails : (vars : List Ty) (t : Term) (ty : Ty) → HasType env vars t ty → Each (TailGives ty) (calls true t)
    tails vars (var n) ty h = tt
    tails vars (flag b) ty h = tt
    tails vars (word w v) ty h = tt
    tails vars (un op w x) ty h = from_inner ty (calls false x) (inner x)
    tails vars (bin op w x y) ty h = from_inner ty (calls false x ++ calls false y) (inner (bin op w x y))
    tails vars (test c w x y) ty h = from_inner ty (calls false x ++ calls false y) (inner (test c w x y))
    tails vars (cast kind from to x) ty h = from_inner ty (calls false x) (inner x)
    tails vars (let_in x body) ty h =
        each_append (TailGives ty) (calls false x) (calls true body) (from_inner ty (calls false x) (inner x)) (tails (vars ++ h.0 ∷ []) body ty h.2)
    tails vars (if_else c x y) ty h =
        each_append (TailGives ty) (calls false c ++ calls true x) (calls true y)
        (each_append (TailGives ty) (calls false c) (calls true x) (from_inner ty (calls false c) (inner c)) (tails vars x ty h.1)) (tails vars y ty h.2)
    tails vars (match_on x arms) ty h =
        each_append (TailGives ty) (calls false x) (arm_calls true arms) (from_inner ty (calls false x) (inner x)) (arm_tails vars h.0 arms ty h.2)
    tails vars (make d k args) ty h = from_inner ty (all_calls args) (inner_all args)
    tails vars (call f args) ty h =
        each_append (TailGives ty) (all_calls args) (call_of f true ∷ []) (from_inner ty (all_calls args) (inner_all args)) (λ t. (h.0, h.1, sym h.3), tt)
    tails vars (get m x k) ty h = from_inner ty (calls false x ++ calls false k) (inner (get m x k))
    tails vars (put m x k v) ty h = from_inner ty (calls false x ++ calls false k ++ calls false v) (inner (put m x k v))

    arm_tails : (vars : List Ty) (from : Ty) (arms : Arms) (ty : Ty) → ArmsHaveType env vars from arms ty → Each (TailGives ty) (arm_calls true arms)
    arm_tails vars from no_arm ty h = tt
    arm_tails vars from (arm_then p t rest) ty h =
        each_append (TailGives ty) (calls true t) (arm_calls true rest) (tails (vars ++ h.0) t ty h.2) (arm_tails vars from rest ty h.3)

-- ---- along a path within a group
-- a call by its function
pub record CallAt (cs : List Call) (g : ℕ) : Type 0 where
  pub tail : Bool
  pub k : ℕ
  pub below : k < length cs
  pub is : get_or cs k (call_of g tail) ≡ call_of g tail

call_at : (cs : List Call) (k g : ℕ) → k < length cs → get_or (map (λ c. c.fun) cs) k g ≡ g → CallAt cs g
call_at [] k g l e = absurd (omega (arith, l))
call_at (c ∷ cs) zero g l e = record { tail = c.tail; k = 0; below = omega arith; is = ap (λ f. call_of f c.tail) e }
call_at (c ∷ cs) (suc k) g l e =
    let r = call_at cs k g (omega (arith, l)) e in
    record { tail = r.tail; k = suc r.k; below = omega (arith, r.below); is = r.is }

-- the functions that a body calls
abbrev called : Term → List ℕ
called body = map (λ c. c.fun) (calls true body)

module _ (env : Environment) (bodies : List Term) (typed : AreTyped env bodies) (none : NoRecursionFault bodies) where
  row_of : (f : ℕ) (o : Option Term) → slice_get bodies f ≡ o → get_or (call_graph bodies) f [] ≡ unwrap_or (option_map called o) []
  row_of f o is = sym (unwrap_or-slice_get (call_graph bodies) f []) ∙ ap (λ x. unwrap_or x []) (slice_get-map called bodies f ∙ ap (option_map called) is)

  -- a function that is called from a body is called by one of the calls of that body
  called_by : (f g : ℕ) (o : Option Term) → slice_get bodies f ≡ o → CallsTo bodies f g → (body : Term) × (slice_get bodies f ≡ Some body) × CallAt (calls true body) g
  called_by f g None is e = absurd (omega (arith, e.1, ap length (row_of f None is)))
  called_by f g (Some body) is e =
      let row = row_of f (Some body) is in
      let below : e.0 < length (calls true body) = omega (arith, e.1, ap length row, length-map (calls true body) (λ c. c.fun)) in
      (body, is, call_at (calls true body) e.0 g below (sym (ap (λ xs. get_or xs e.0 g) row) ∙ e.2))

  tail_of : (f g : ℕ) (body : Term) → slice_get bodies f ≡ Some body → InOneGroup bodies f g → (r : CallAt (calls true body) g) → r.tail ≡ true
  tail_of f g body is same r = at r.tail refl
    where
      at : (b : Bool) → r.tail ≡ b → r.tail ≡ true
      at true e = e
      at false e =
          absurd (none f (record { body = body; is = is; called = g; calls_it = (r.k, r.below, subst (λ t. get_or (calls true body) r.k (call_of g t) ≡ call_of g t) e r.is); same = same }))

  -- one call within a group keeps the type of the result
  one_call : (f g : ℕ) (s : Signature) → slice_get env.funs f ≡ Some s → CallsTo bodies f g → InOneGroup bodies f g → Gives env s.result_type g
  one_call f g s is e same =
      let b = called_by f g (slice_get bodies f) refl e in
      let gives = each_at (TailGives env s.result_type) (calls true b.0) b.2.k (call_of g b.2.tail) (call_of g b.2.tail) (tails env s.params b.0 s.result_type (typed f b.0 s b.1 is)) b.2.below b.2.is in
      gives (tail_of f g b.0 b.1 same b.2)

  -- so does a path that comes back
  along : (f g : ℕ) (s : Signature) → slice_get env.funs f ≡ Some s → Reaches (call_graph bodies) f g → Reaches (call_graph bodies) g f → Gives env s.result_type g
  along f g s is (edge e) back = one_call f g s is e (inr (edge e, back))
  along f g s is (onward {b = c} e p) back =
      let step = one_call f c s is e (inr (edge e, joined (call_graph bodies) c g f p back)) in
      let rest = along c g step.0 step.1 p (joined (call_graph bodies) g f c back (edge e)) in
      (rest.0, rest.1, rest.2 ∙ step.2)

pub groups_have_one_result : GroupsHaveOneResult
groups_have_one_result env bodies f g s r typed none (inl e) is there = ap (λ x. x.result_type) (same_signature s r (sym is ∙ ap (slice_get env.funs) e ∙ there))
groups_have_one_result env bodies f g s r typed none (inr p) is there =
    let gives = along env bodies typed none f g s is p.0 p.1 in
    sym gives.2 ∙ ap (λ x. x.result_type) (same_signature gives.0 r (sym gives.1 ∙ there))
