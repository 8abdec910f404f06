-- Calls of a checked specification are in order: by groups and ranks.
use Rattle.std.proofs.Common.{◌≡◌, ℕ, zero, suc, ◌<◌, ◌≤◌, Bool, true, false, Some, option_map, unwrap_or, List, [], ◌∷◌, ◌++◌, length, map, get_or, slice_get, refl, sym, ap, ◌∙◌, subst, inl, inr, arith}
use Rattle.std.specs.List.{All, Contains}
use Rattle.std.proofs.lemmas.Bool.{false≢true}
use Rattle.std.proofs.lemmas.List.{length-map}
use Rattle.std.proofs.lemmas.List.Elements.{All-weaker, All-contains_itself}
use Rattle.std.proofs.lemmas.Option.{slice_get-map, slice_get_within, unwrap_or-slice_get}
use Rattle.support_reachability.specs.Graph.{SameGroup, IsLeastOfGroup, edge}
use Rattle.support_reachability.specs.Table.{IsTableOf, same_group, rank}
use Rattle.support_reachability.proofs.Groups.{inside}
use Rattle.support_reachability.proofs.Ranks.{joined, ranks_fall}
use Rattle.spec_ir.specs.declared.ty.Ty.{Ty}
use Rattle.spec_ir.specs.Environment.{Environment}
use Rattle.spec_ir.specs.Terms as t
use Rattle.spec_ir.specs.Terms.{Term, Terms, Arms}
use Rattle.spec_ir.specs.TermTypes.{HasType, HaveTypes, ArmsHaveType}
use Rattle.spec_ir.specs.Specification.{Spec, Fun}
use Rattle.spec_calls.specs.declared.call.Call.{Call}
use Rattle.spec_calls.specs.Calls as k
use Rattle.spec_calls.specs.Calls.{call_of, all_calls, arm_calls, call_graph}
use Rattle.spec_calls.specs.Groups.{CallsTo}
use Rattle.spec_calls.specs.Recursion.{NoRecursionFault}
use Rattle.spec_calls.proofs.Told.{graph_len, told_from, told_to}
use Rattle.spec_calls.proofs.Settled.{group_calls_are_tails}
use Rattle.semantics.specs.Direct.{group_at, group_of}
use Rattle.semantics_laws.specs.Accepted.{IsInOrder}
use Rattle.semantics_laws.proofs.Terms.{Each}

each_append : (P : Call → Type 0) (xs ys : List Call) → Each P xs → Each P ys → Each P (xs ++ ys)
each_append P [] ys h k = k
each_append P (c ∷ cs) ys h k = (h.0, each_append P cs ys h.1 k)

each_at : (P : Call → Type 0) (xs : List Call) (c d : Call) (i : ℕ) → Each P xs → i < length xs → get_or xs i d ≡ c → P c
each_at P [] c d i h l e = absurd (omega (arith, l))
each_at P (x ∷ xs) c d zero h l e = subst P e h.0
each_at P (x ∷ xs) c d (suc i) h l e = each_at P xs c d i h.1 (omega (arith, l)) e

-- ---- functions that a typed term calls are there
module _ (env : Environment) where
  abbrev IsThere : Call → Type 0
  IsThere c = c.fun < length env.funs

  mutual
    callees : (b : Bool) (vars : List Ty) (x : Term) (ty : Ty) → HasType env vars x ty → Each IsThere (k.calls b x)
    callees b vars (t.var n) ty h = tt
    callees b vars (t.flag c) ty h = tt
    callees b vars (t.word w n) ty h = tt
    callees b vars (t.un op w x) ty h = callees false vars x _ h.0
    callees b vars (t.bin op w x y) ty h = each_append IsThere (k.calls false x) (k.calls false y) (callees false vars x _ h.0) (callees false vars y _ h.1)
    callees b vars (t.test c w x y) ty h = each_append IsThere (k.calls false x) (k.calls false y) (callees false vars x _ h.0) (callees false vars y _ h.1)
    callees b vars (t.cast kind from to x) ty h = callees false vars x _ h.0
    callees b vars (t.let_in x body) ty h = each_append IsThere (k.calls false x) (k.calls b body) (callees false vars x h.0 h.1) (callees b (vars ++ h.0 ∷ []) body ty h.2)
    callees b vars (t.if_else c x y) ty h =
        each_append IsThere (k.calls false c ++ k.calls b x) (k.calls b y) (each_append IsThere (k.calls false c) (k.calls b x) (callees false vars c _ h.0) (callees b vars x ty h.1)) (callees b vars y ty h.2)
    callees b vars (t.match_on x arms) ty h = each_append IsThere (k.calls false x) (arm_calls b arms) (callees false vars x h.0 h.1) (arm_callees b vars h.0 arms ty h.2)
    callees b vars (t.make d c args) ty h = all_callees vars args _ h.0
    callees b vars (t.call f args) ty h = each_append IsThere (all_calls args) (call_of f b ∷ []) (all_callees vars args h.0.params h.2) (slice_get_within env.funs f h.0 h.1, tt)
    callees b vars (t.get m x y) ty h = each_append IsThere (k.calls false x) (k.calls false y) (callees false vars x _ h.1) (callees false vars y _ h.2)
    callees b vars (t.put m x y z) ty h =
        each_append IsThere (k.calls false x ++ k.calls false y) (k.calls false z) (each_append IsThere (k.calls false x) (k.calls false y) (callees false vars x _ h.1) (callees false vars y _ h.2)) (callees false vars z _ h.3)

    all_callees : (vars : List Ty) (xs : Terms) (tys : List Ty) → HaveTypes env vars xs tys → Each IsThere (all_calls xs)
    all_callees vars t.no_term tys h = tt
    all_callees vars (t.term_then x xs) [] h = absurd h
    all_callees vars (t.term_then x xs) (ty ∷ tys) h = each_append IsThere (k.calls false x) (all_calls xs) (callees false vars x ty h.0) (all_callees vars xs tys h.1)

    arm_callees : (b : Bool) (vars : List Ty) (from : Ty) (arms : Arms) (ty : Ty) → ArmsHaveType env vars from arms ty → Each IsThere (arm_calls b arms)
    arm_callees b vars from t.no_arm ty h = tt
    arm_callees b vars from (t.arm_then p x rest) ty h = each_append IsThere (k.calls b x) (arm_calls b rest) (callees b (vars ++ h.0) x ty h.2) (arm_callees b vars from rest ty h.3)

-- ---- groups of a graph
module _ (graph : List (List ℕ)) where
  same_back : (a b : ℕ) → SameGroup graph a b → SameGroup graph b a
  same_back a b (inl e) = inl (sym e)
  same_back a b (inr p) = inr (p.1, p.0)

  same_on : (a b c : ℕ) → SameGroup graph a b → SameGroup graph b c → SameGroup graph a c
  same_on a b c (inl e) h = subst (λ x. SameGroup graph x c) (sym e) h
  same_on a b c (inr p) (inl e) = subst (λ x. SameGroup graph a x) e (inr p)
  same_on a b c (inr p) (inr q) = inr (joined graph a b c p.0 q.0, joined graph c b a q.1 p.1)

  -- the least nodes of groups, and the groups
  same_least : (a b m n : ℕ) → IsLeastOfGroup graph a m → IsLeastOfGroup graph b n → SameGroup graph a b → m ≡ n
  same_least a b m n h k s =
      let low = h.below n (same_on a b n s k.same) in
      let high = k.below m (same_on b a m (same_back a b s) h.same) in
      omega (arith, low, high)

  least_same : (a b m n : ℕ) → IsLeastOfGroup graph a m → IsLeastOfGroup graph b n → m ≡ n → SameGroup graph a b
  least_same a b m n h k e = same_on a m b h.same (subst (λ x. SameGroup graph x b) (sym e) (same_back b n k.same))

  least_itself : (a m : ℕ) → IsLeastOfGroup graph a m → IsLeastOfGroup graph m m
  least_itself a m h = record { same = inl refl; below = λ b s. h.below b (same_on a m b h.same s) }

-- a call of a body is an edge
called_row : (bodies : List Term) (f : ℕ) (body : Term) → slice_get bodies f ≡ Some body → get_or (call_graph bodies) f [] ≡ map (λ c. c.fun) (k.calls true body)
called_row bodies f body is =
    sym (unwrap_or-slice_get (call_graph bodies) f []) ∙ ap (λ x. unwrap_or x []) (slice_get-map (λ b. map (λ c. c.fun) (k.calls true b)) bodies f ∙ ap (option_map (λ b. map (λ c. c.fun) (k.calls true b))) is)

fun_in : (cs : List Call) (i : ℕ) (c : Call) → i < length cs → get_or cs i c ≡ c → get_or (map (λ x. x.fun) cs) i c.fun ≡ c.fun
fun_in [] i c l e = absurd (omega (arith, l))
fun_in (x ∷ cs) zero c l e = ap (λ z. z.fun) e
fun_in (x ∷ cs) (suc i) c l e = fun_in cs i c (omega (arith, l)) e

is_call : (bodies : List Term) (f : ℕ) (body : Term) (c : Call) → slice_get bodies f ≡ Some body → Contains (k.calls true body) c → CallsTo bodies f c.fun
is_call bodies f body c is h =
    let row = called_row bodies f body is in
    let cs = k.calls true body in
    subst (λ xs. Contains xs c.fun) (sym row) (h.0, omega (arith, h.1, length-map cs (λ x. x.fun)), fun_in cs h.0 c h.1 h.2)

pub fun_there : (funs : List Fun) (f : ℕ) → f < length funs → (fun : Fun) × (slice_get funs f ≡ Some fun)
fun_there [] f h = absurd (omega (arith, h))
fun_there (x ∷ funs) zero h = (x, refl)
fun_there (x ∷ funs) (suc f) h = fun_there funs f (omega (arith, h))

-- ---- the functions of a specification, which have these bodies and groups
module _ (spec : Spec) (bodies : List Term) (count : length bodies ≡ length spec.funs)
    (body_at : (f : ℕ) (fun : Fun) → slice_get spec.funs f ≡ Some fun → slice_get bodies f ≡ Some fun.body)
    (least_at : (f : ℕ) (fun : Fun) → slice_get spec.funs f ≡ Some fun → IsLeastOfGroup (call_graph bodies) f fun.group) where
  -- functions whose groups have one number
  pub of_one_group : (f g : ℕ) (fun other : Fun) → slice_get spec.funs f ≡ Some fun → slice_get spec.funs g ≡ Some other → fun.group ≡ other.group → SameGroup (call_graph bodies) f g
  of_one_group f g fun other is there e = least_same (call_graph bodies) f g fun.group other.group (least_at f fun is) (least_at g other there) e

  group_is : (f : ℕ) (fun : Fun) → slice_get spec.funs f ≡ Some fun → group_of spec f ≡ fun.group
  group_is f fun e = ap group_at e

  module _ (table : List (List Bool)) (told : IsTableOf (call_graph bodies) table) (none : NoRecursionFault bodies) where
    within : (f : ℕ) (fun : Fun) → slice_get spec.funs f ≡ Some fun → f < length (call_graph bodies)
    within f fun is = omega (arith, slice_get_within spec.funs f fun is, graph_len bodies, count)

    group_within : (f : ℕ) (fun : Fun) → slice_get spec.funs f ≡ Some fun → fun.group < length (call_graph bodies)
    group_within f fun is = inside (call_graph bodies) table told f fun.group (within f fun is) (least_at f fun is).same

    rank_is : (f : ℕ) (fun : Fun) → slice_get spec.funs f ≡ Some fun → rank table (group_of spec f) ≡ rank table f
    rank_is f fun is =
        ap (rank table) (group_is f fun is) ∙ sym ((ranks_fall (call_graph bodies) table told).stays f fun.group (within f fun is) (group_within f fun is) (least_at f fun is).same)

    pub rank_bound : (f : ℕ) (fun : Fun) → slice_get spec.funs f ≡ Some fun → rank table fun.group ≤ length spec.funs
    rank_bound f fun is = omega (arith, (ranks_fall (call_graph bodies) table told).bound fun.group (group_within f fun is), graph_len bodies, count)

    pub group_of_group : (f : ℕ) (fun : Fun) → slice_get spec.funs f ≡ Some fun → group_of spec fun.group ≡ fun.group
    group_of_group f fun is =
        let there = fun_there spec.funs fun.group (omega (arith, group_within f fun is, graph_len bodies, count)) in
        group_is fun.group there.0 there.1 ∙ same_least (call_graph bodies) fun.group fun.group there.0.group fun.group (least_at fun.group there.0 there.1) (least_itself (call_graph bodies) f fun.group (least_at f fun is)) (inl refl)

    in_order : (f : ℕ) (fun : Fun) (c : Call) → slice_get spec.funs f ≡ Some fun → c.fun < length spec.funs → Contains (k.calls true fun.body) c → IsInOrder spec (rank table) f c
    in_order f fun c is below h = at (same_group table f c.fun) refl
      where
        there : (other : Fun) × (slice_get spec.funs c.fun ≡ Some other)
        there = fun_there spec.funs c.fun below

        at : (b : Bool) → same_group table f c.fun ≡ b → IsInOrder spec (rank table) f c
        at true e =
            let same = told_from (call_graph bodies) table told f c.fun (within f fun is) e in
            let group = same_least (call_graph bodies) c.fun f there.0.group fun.group (least_at c.fun there.0 there.1) (least_at f fun is) (same_back (call_graph bodies) f c.fun same) in
            inl (group_is c.fun there.0 there.1 ∙ group ∙ sym (group_is f fun is), group_calls_are_tails bodies f c.fun fun.body c.tail none (body_at f fun is) h same)
        at false e =
            let apart = λ (s : SameGroup (call_graph bodies) f c.fun). false≢true (sym e ∙ told_to (call_graph bodies) table told f c.fun (within f fun is) s) in
            let less = (ranks_fall (call_graph bodies) table told).falls f c.fun (within f fun is) (within c.fun there.0 there.1) (edge (is_call bodies f fun.body c (body_at f fun is) h)) apart in
            inr (omega (arith, less, rank_is f fun is, rank_is c.fun there.0 there.1))

    -- all calls of a body that has a type are in order
    pub calls_in_order : (env : Environment) (f : ℕ) (fun : Fun) (vars : List Ty) (ty : Ty) → slice_get spec.funs f ≡ Some fun → length env.funs ≡ length spec.funs → HasType env vars fun.body ty → All (IsInOrder spec (rank table) f) (k.calls true fun.body)
    calls_in_order env f fun vars ty is same h =
        let there = callees env true vars fun.body ty h in
        All-weaker (Contains (k.calls true fun.body)) (IsInOrder spec (rank table) f) (λ c q. in_order f fun c is (omega (arith, each_at (IsThere env) (k.calls true fun.body) c c q.0 there q.1 q.2, same)) q) (k.calls true fun.body) (All-contains_itself (k.calls true fun.body))
