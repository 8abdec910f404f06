-- Turns give what fits.
use Rattle.std.proofs.Common.{◌≡◌, ℕ, zero, suc, ◌<◌, ◌⊎◌, inl, inr, Bool, true, false, cond, List, [], ◌∷◌, ◌++◌, Option, Some, None, slice_get, refl, sym, ap, subst, ◌∙◌, arith}
use Rattle.std.specs.Prelude.{◌==◌, IfSome}
use Rattle.std.proofs.lemmas.Bool.Decides.{nat_tests}
use Rattle.base_trait.specs.Algebra.{Algebra}
use Rattle.base_trait.specs.Laws.{Laws}
use Rattle.base_trait.specs.Uses.{Seen}
use Rattle.abstract_map_laws.specs.Laws.{HasRoom}
use Rattle.spec_ir.specs.declared.ty.Ty.{Ty}
use Rattle.spec_ir.specs.declared.ty.Ty.TheVariants.{Bool as Flag}
use Rattle.spec_ir.specs.CoreTerms as t
use Rattle.spec_ir.specs.CoreTerms.{Core, Cores}
use Rattle.spec_ir.specs.Environment.{Signature}
use Rattle.spec_ir.specs.Specification.{Spec, Fun}
use Rattle.spec_ir.specs.WellFormed.{IsWellFormed}
use Rattle.semantics_values.specs.Types.{environment_of}
use Rattle.semantics.specs.Direct.{group_of}
use Rattle.semantics_laws.specs.Places.{types_named}
use Rattle.semantics_laws.specs.CoreTypes.{HasCoreType, ArmHasType}
use Rattle.semantics_laws.specs.CoreCalls.{CallsBelow, CallsInOrder, AllCallInOrder}
use Rattle.abstract_value_laws.specs.Abs.{Abs, parts}
use Rattle.abstract_value_laws.specs.Types.{have_types}
use Rattle.support_tail_fixpoint.specs.Groups.{EachIs}
use Rattle.support_tail_fixpoint.proofs.Groups.{only_is}
use Rattle.support_tail_fixpoint.specs.Answer.{Yield, gives}
use Rattle.abstract_semantics.specs.Answers.{Answer, Evaluation, behind}
use Rattle.abstract_semantics.specs.Choices.{abs_named, arm_on, flag_there}
use Rattle.abstract_semantics.specs.Terms.{GroupArgs, asked_with, asks, bodies, body_turn, called, group_turn, join_yields, leaf_of, params_in, params_of, turn_arm, turn_of, value_of, values_of}
use Rattle.abstract_semantics.proofs.Kept.{IsKept, Keeping, AllKeeping, behind_kept, bind_kept, branch_kept, guarded, joined_kept, keeps_itself, nothing}
use Rattle.abstract_semantics.proofs.Typed.{IsOf, AreOf, are_append}
use Rattle.abstract_semantics.proofs.Stepped.{Invariant}
use Rattle.abstract_semantics.proofs.Chosen.{decided_kept, named_kept}
use Rattle.std.proofs.lemmas.Option.{slice_get_within}
use Rattle.semantics_laws.proofs.Turns.{fun_of}
use Rattle.abstract_semantics.proofs.Termed.{ArgsOf, IsYield, KeysAreFine, value_kept, values_kept, yields_joined}

module _ {W N C : Type 0} (B : Algebra W N C) (laws : Laws W N C B) (c : C) (cap : ℕ) (spec : Spec) (a : ℕ) (P : Abs W N → Type 0) (inv : Invariant B c cap (environment_of spec) a P)
    (room : HasRoom B cap) (formed : IsWellFormed (environment_of spec)) (keys_fine : KeysAreFine (environment_of spec))
    (Fine : Type 0) (calls : ℕ → List (Abs W N) → Answer (Abs W N)) (rank : ℕ → ℕ) (g : ℕ)
    (below : (f : ℕ) (s : Signature) (xs : List (Abs W N)) → rank (group_of spec f) < rank g → slice_get (environment_of spec).funs f ≡ Some s → AreOf B c cap (environment_of spec) P s.params xs
    → IsKept Fine (IsOf B c cap (environment_of spec) P s.result_type) [] (calls f xs)) (ty : Ty) where
  abbrev Yields : Yield (GroupArgs W N) (Abs W N) → Type 0
  Yields = IsYield B laws c cap spec a P g ty

  leaf_kept : (l : List Seen) (r : Answer (Abs W N)) → IsKept Fine (IsOf B c cap (environment_of spec) P ty) l r → IsKept Fine (IsYield B laws c cap spec a P g ty) l (leaf_of B c cap spec a calls r)
  leaf_kept l r h = bind_kept Fine (IsOf B c cap (environment_of spec) P ty) (IsYield B laws c cap spec a P g ty) l r _ h (λ x m hx. (record { out = hx; next = tt }, keeps_itself m))

  asked_kept : (f : ℕ) (s : Signature) (xs : List (Abs W N)) (l : List Seen) → group_of spec f ≡ g → slice_get (environment_of spec).funs f ≡ Some s → AreOf B c cap (environment_of spec) P s.params xs
      → IsKept Fine (IsYield B laws c cap spec a P g ty) l (gives (asked_with spec f xs) l)
  asked_kept f s xs l same e h =
      let fun = fun_of spec f s e in
      let params : s.params ≡ params_of spec f = ap (λ z. z.params) (sym fun.same) ∙ sym (ap params_in fun.is) in
      guarded Fine (IsYield B laws c cap spec a P g ty) (have_types (environment_of spec) (parts xs) (params_of spec f)) (asks f xs) l
      (record { out = tt; next = only_is (ArgsOf B laws c cap spec a P g) f xs (record { there = slice_get_within spec.funs f fun.fun fun.is; of_group = same; are = subst (λ ts. AreOf B c cap (environment_of spec) P ts xs) params h }) })

  called_kept : (f : ℕ) (s : Signature) (xs : List (Abs W N)) (l : List Seen) → (group_of spec f ≡ g) ⊎ (rank (group_of spec f) < rank g) → slice_get (environment_of spec).funs f ≡ Some s → s.result_type ≡ ty
      → AreOf B c cap (environment_of spec) P s.params xs → IsKept Fine (IsYield B laws c cap spec a P g ty) l (called B c cap spec a calls g f xs l)
  called_kept f s xs l order e same h = at (group_of spec f == g) refl order
    where
      lower : rank (group_of spec f) < rank g → IsKept Fine (IsYield B laws c cap spec a P g ty) l (leaf_of B c cap spec a calls (behind l (calls f xs)))
      lower lt = leaf_kept l (behind l (calls f xs)) (behind_kept Fine _ l (calls f xs) (subst (λ z. IsKept Fine (IsOf B c cap (environment_of spec) P z) [] (calls f xs)) same (below f s xs lt e h)))

      at : (b : Bool) → (group_of spec f == g) ≡ b → (group_of spec f ≡ g) ⊎ (rank (group_of spec f) < rank g)
          → IsKept Fine (IsYield B laws c cap spec a P g ty) l (cond b (gives (asked_with spec f xs) l) (leaf_of B c cap spec a calls (behind l (calls f xs))))
      at true is order = asked_kept f s xs l (grind (arith, nat_tests)) e h
      at false is (inl same) = absurd (grind (arith, nat_tests))
      at false is (inr lt) = lower lt

  arm_given : (o : Option (List (Abs W N))) (arm : List (Abs W N) → Evaluation (Yield (GroupArgs W N) (Abs W N))) (more : List Ty) (l : List Seen) → IfSome o (AreOf B c cap (environment_of spec) P more)
      → ((vs : List (Abs W N)) → AreOf B c cap (environment_of spec) P more vs → IsKept Fine (IsYield B laws c cap spec a P g ty) l (arm vs l)) → IsKept Fine (IsYield B laws c cap spec a P g ty) l (arm_on arm o l)
  arm_given None arm more l h go = nothing Fine (IsYield B laws c cap spec a P g ty) l
  arm_given (Some vs) arm more l h go = go vs h

  as_leaf : (x : Core) (vars : List Ty) (env : List (Abs W N)) (l : List Seen) → AreOf B c cap (environment_of spec) P vars env → HasCoreType (environment_of spec) vars x ty → CallsBelow (group_of spec) rank g x
      → IsKept Fine (IsYield B laws c cap spec a P g ty) l (leaf_of B c cap spec a calls (value_of B c cap spec a calls env x l))
  as_leaf x vars env l h ok b = leaf_kept l (value_of B c cap spec a calls env x l) (value_kept B laws c cap spec a P inv room formed keys_fine Fine calls rank g below x vars env ty l h ok b)

  abbrev valued : (x : Core) (vars : List Ty) (env : List (Abs W N)) (s : Ty) (l : List Seen) → AreOf B c cap (environment_of spec) P vars env → HasCoreType (environment_of spec) vars x s → CallsBelow (group_of spec) rank g x
      → IsKept Fine (IsOf B c cap (environment_of spec) P s) l (value_of B c cap spec a calls env x l)
  valued = value_kept B laws c cap spec a P inv room formed keys_fine Fine calls rank g below

  mutual
    pub turn_kept : (x : Core) (vars : List Ty) (env : List (Abs W N)) (l : List Seen) → AreOf B c cap (environment_of spec) P vars env → HasCoreType (environment_of spec) vars x ty → CallsInOrder (group_of spec) rank g x
        → IsKept Fine (IsYield B laws c cap spec a P g ty) l (turn_of B c cap spec a calls g env x l)
    turn_kept (t.let_in x y) vars env l h ok b =
        bind_kept Fine _ _ l (value_of B c cap spec a calls env x l) _ (valued x vars env ok.0 l h ok.1 b.0) (λ p l hp.
        turn_kept y (vars ++ ok.0 ∷ []) (env ++ p ∷ []) l (are_append B c cap (environment_of spec) P vars (ok.0 ∷ []) env (p ∷ []) h (hp, tt)) ok.2 b.1)
    turn_kept (t.if_else k x y) vars env l h ok b =
        bind_kept Fine _ _ l (value_of B c cap spec a calls env k l) _ (valued k vars env Flag l h ok.0 b.0) (λ p l hp.
        branch_kept Fine (IsYield B laws c cap spec a P g ty) (join_yields B c cap spec a) (yields_joined B laws c cap spec a P inv room formed keys_fine g ty) (flag_there (Some p)) _ _
        (λ l. turn_kept x vars env l h ok.1 b.1) (λ l. turn_kept y vars env l h ok.2 b.2) l)
    turn_kept (t.choose x by arms) vars env l h ok b =
        bind_kept Fine _ _ l (value_of B c cap spec a calls env x l) _ (valued x vars env ok.0 l h ok.1 b.0) (λ p l hp.
        decided_kept B c cap (environment_of spec) a P inv Fine (IsYield B laws c cap spec a P g ty) (join_yields B c cap spec a) (yields_joined B laws c cap spec a P inv room formed keys_fine g ty)
        (λ r vs m. turn_arm B c cap spec a calls g env arms r vs m) p ok.0
        (λ r binds. (more : List Ty) × (types_named (environment_of spec) ok.0 binds ≡ Some more) × ArmHasType (environment_of spec) vars arms r more ty)
        (λ r binds q l. arm_given (abs_named p binds) (λ vs m. turn_arm B c cap spec a calls g env arms r vs m) q.0 l (named_kept B c cap (environment_of spec) a P inv p ok.0 binds q.0 hp q.1)
        (λ vs hvs. turn_arm_kept arms r vars env q.0 vs l h hvs q.2 b.1)) by ok.2 l)
    turn_kept (t.call f args) vars env l h ok b =
        bind_kept Fine _ _ l (values_of B c cap spec a calls env args l) _ (values_kept B laws c cap spec a P inv room formed keys_fine Fine calls rank g below args vars env ok.0.params l h ok.2 b.1) (λ ps l hps.
        called_kept f ok.0 ps l b.0 ok.1 (sym ok.3) hps)
    turn_kept (t.var n) vars env l h ok b = as_leaf (t.var n) vars env l h ok b
    turn_kept (t.flag q) vars env l h ok b = as_leaf (t.flag q) vars env l h ok b
    turn_kept (t.word w v) vars env l h ok b = as_leaf (t.word w v) vars env l h ok b
    turn_kept (t.un op w x) vars env l h ok b = as_leaf (t.un op w x) vars env l h ok b
    turn_kept (t.bin op w x y) vars env l h ok b = as_leaf (t.bin op w x y) vars env l h ok b
    turn_kept (t.test k w x y) vars env l h ok b = as_leaf (t.test k w x y) vars env l h ok b
    turn_kept (t.cast kind from to x) vars env l h ok b = as_leaf (t.cast kind from to x) vars env l h ok b
    turn_kept (t.make d k args) vars env l h ok b = as_leaf (t.make d k args) vars env l h ok b
    turn_kept (t.get m x k) vars env l h ok b = as_leaf (t.get m x k) vars env l h ok b
    turn_kept (t.put m x k v) vars env l h ok b = as_leaf (t.put m x k v) vars env l h ok b

    pub turn_arm_kept : (ts : Cores) (r : ℕ) (vars : List Ty) (env : List (Abs W N)) (more : List Ty) (vs : List (Abs W N)) (l : List Seen) → AreOf B c cap (environment_of spec) P vars env → AreOf B c cap (environment_of spec) P more vs
        → ArmHasType (environment_of spec) vars ts r more ty → AllCallInOrder (group_of spec) rank g ts → IsKept Fine (IsYield B laws c cap spec a P g ty) l (turn_arm B c cap spec a calls g env ts r vs l)
    turn_arm_kept t.no_core r vars env more vs l h k ok b = absurd ok
    turn_arm_kept (t.core_then x rest) zero vars env more vs l h k ok b = turn_kept x (vars ++ more) (env ++ vs) l (are_append B c cap (environment_of spec) P vars more env vs h k) ok b.0
    turn_arm_kept (t.core_then x rest) (suc r) vars env more vs l h k ok b = turn_arm_kept rest r vars env more vs l h k ok b.1

  -- ---- the bodies of a group
  module _ (right : (f : ℕ) (fun : Fun) → slice_get spec.funs f ≡ Some fun → group_of spec f ≡ g → HasCoreType (environment_of spec) fun.params fun.core ty × CallsInOrder (group_of spec) rank g fun.core) where
    pub body_kept : (f : ℕ) (o : Option Fun) → slice_get spec.funs f ≡ o → (xs : List (Abs W N)) → ArgsOf B laws c cap spec a P g f xs → Keeping Fine (IsYield B laws c cap spec a P g ty) (body_turn B c cap spec a calls g o xs)
    body_kept f None e xs h l = nothing Fine (IsYield B laws c cap spec a P g ty) l
    body_kept f (Some fun) e xs h l =
        let ok = right f fun e h.of_group in
        turn_kept fun.core fun.params xs l (subst (λ o. AreOf B c cap (environment_of spec) P (params_in o) xs) e h.are) ok.0 ok.1

    pub bodies_kept : (on : ℕ → List (Abs W N) → Evaluation (Yield (GroupArgs W N) (Abs W N))) (Q : ℕ → List (Abs W N) → Type 0) (args : GroupArgs W N) → EachIs Q args
        → ((f : ℕ) (xs : List (Abs W N)) → Q f xs → Keeping Fine (IsYield B laws c cap spec a P g ty) (on f xs)) → AllKeeping Fine (IsYield B laws c cap spec a P g ty) (bodies B c cap spec a on args)
    bodies_kept on Q [] h go = tt
    bodies_kept on Q (None ∷ rest) h go = bodies_kept (λ i. on (suc i)) (λ i. Q (suc i)) rest h.1 (λ i. go (suc i))
    bodies_kept on Q (Some xs ∷ rest) h go = (go zero xs h.0, bodies_kept (λ i. on (suc i)) (λ i. Q (suc i)) rest h.1 (λ i. go (suc i)))

    pub group_kept : (args : GroupArgs W N) → EachIs (ArgsOf B laws c cap spec a P g) args → Keeping Fine (IsYield B laws c cap spec a P g ty) (group_turn B c cap spec a calls g args)
    group_kept args h = joined_kept Fine (IsYield B laws c cap spec a P g ty) (join_yields B c cap spec a) (yields_joined B laws c cap spec a P inv room formed keys_fine g ty) _
        (bodies_kept (λ i xs. body_turn B c cap spec a calls g (slice_get spec.funs i) xs) (ArgsOf B laws c cap spec a P g) args h (λ f xs k. body_kept f (slice_get spec.funs f) refl xs k))
