-- Turns of a group give the same where calls of lower groups do.
use Rattle.std.proofs.Common.{◌≡◌, ℕ, zero, suc, ◌<◌, ◌⊎◌, inl, inr, Bool, true, false, cond, List, [], ◌∷◌, ◌++◌, Option, Some, None, slice_get, refl, ap, subst, arith}
use Rattle.std.specs.Prelude.{◌==◌}
use Rattle.std.proofs.lemmas.Bool.Decides.{nat_tests}
use Rattle.base_trait.specs.Algebra.{Algebra}
use Rattle.base_trait.specs.Laws.{Laws}
use Rattle.base_trait.specs.Uses.{Seen}
use Rattle.abstract_map_laws.specs.Laws.{HasRoom}
use Rattle.spec_ir.specs.declared.ty.Ty.{Ty}
use Rattle.spec_ir.specs.declared.ty.Ty.TheVariants.{Bool as Flag}
use Rattle.spec_ir.specs.CoreTerms as t
use Rattle.spec_ir.specs.CoreTerms.{Core, Cores}
use Rattle.spec_ir.specs.Environment.{Signature}
use Rattle.spec_ir.specs.Specification.{Spec, Fun}
use Rattle.spec_ir.specs.WellFormed.{IsWellFormed}
use Rattle.semantics_values.specs.Types.{environment_of}
use Rattle.semantics.specs.Direct.{group_of}
use Rattle.semantics_laws.specs.Places.{types_named}
use Rattle.semantics_laws.specs.CoreTypes.{HasCoreType, ArmHasType}
use Rattle.semantics_laws.specs.CoreCalls.{CallsBelow, CallsInOrder, AllCallInOrder}
use Rattle.abstract_value_laws.specs.Abs.{Abs}
use Rattle.support_tail_fixpoint.specs.Groups.{EachIs}
use Rattle.support_tail_fixpoint.specs.Answer.{Yield, gives}
use Rattle.abstract_semantics.specs.Answers.{Answer, Evaluation, behind, ◌>>=◌}
use Rattle.abstract_semantics.specs.Choices.{abs_named, flag_there}
use Rattle.abstract_semantics.specs.Terms.{GroupArgs, asked_with, bodies, body_turn, called, group_turn, join_yields, leaf_of, params_in, turn_arm, turn_of, value_of, values_of}
use Rattle.abstract_semantics.proofs.Alike.{AllAlike, AreAlike, bind_alike, branch_alike, decided_alike, joined_alike}
use Rattle.abstract_semantics.proofs.AlikeTerms.{arm_alike, value_alike, values_alike}
use Rattle.abstract_semantics.proofs.Chosen.{named_kept}
use Rattle.abstract_semantics.proofs.Kept.{IsKept}
use Rattle.abstract_semantics.proofs.Stepped.{Invariant}
use Rattle.abstract_semantics.proofs.Termed.{ArgsOf, KeysAreFine, value_kept, values_kept}
use Rattle.abstract_semantics.proofs.Typed.{AreOf, IsOf, are_append}

module _ {W N C : Type 0} (B : Algebra W N C) (laws : Laws W N C B) (c : C) (cap : ℕ) (spec : Spec) (a : ℕ) (P : Abs W N → Type 0) (inv : Invariant B c cap (environment_of spec) a P)
    (room : HasRoom B cap) (formed : IsWellFormed (environment_of spec)) (keys_fine : KeysAreFine (environment_of spec))
    (Fine : Type 0) (calls others : ℕ → List (Abs W N) → Answer (Abs W N)) (rank : ℕ → ℕ) (g : ℕ)
    (below : (f : ℕ) (s : Signature) (xs : List (Abs W N)) → rank (group_of spec f) < rank g → slice_get (environment_of spec).funs f ≡ Some s → AreOf B c cap (environment_of spec) P s.params xs
    → IsKept Fine (IsOf B c cap (environment_of spec) P s.result_type) [] (calls f xs))
    (same : (f : ℕ) (s : Signature) (xs : List (Abs W N)) → rank (group_of spec f) < rank g → slice_get (environment_of spec).funs f ≡ Some s → AreOf B c cap (environment_of spec) P s.params xs → calls f xs ≡ others f xs)
    (ty : Ty) where
  -- a term whose value goes on into something that gives the same
  abbrev first : {A : Type 0} (x : Core) (vars : List Ty) (env : List (Abs W N)) (s : Ty) (l : List Seen) (f h : Abs W N → List Seen → Answer A) → AreOf B c cap (environment_of spec) P vars env → HasCoreType (environment_of spec) vars x s
      → CallsBelow (group_of spec) rank g x → ((z : Abs W N) (m : List Seen) → IsOf B c cap (environment_of spec) P s z → f z m ≡ h z m)
      → value_of B c cap spec a calls env x l >>= f ≡ value_of B c cap spec a others env x l >>= h
  first x vars env s l f h are ok b go =
      bind_alike Fine (IsOf B c cap (environment_of spec) P s) l (value_of B c cap spec a calls env x l) (value_of B c cap spec a others env x l) f h
      (value_kept B laws c cap spec a P inv room formed keys_fine Fine calls rank g below x vars env s l are ok b)
      (value_alike B laws c cap spec a P inv room formed keys_fine Fine calls others rank g below same x vars env s are ok b l) go

  as_leaf : (x : Core) (vars : List Ty) (env : List (Abs W N)) → AreOf B c cap (environment_of spec) P vars env → HasCoreType (environment_of spec) vars x ty → CallsBelow (group_of spec) rank g x
      → (l : List Seen) → leaf_of B c cap spec a calls (value_of B c cap spec a calls env x l) ≡ leaf_of B c cap spec a others (value_of B c cap spec a others env x l)
  as_leaf x vars env h ok b l = ap (leaf_of B c cap spec a calls) (value_alike B laws c cap spec a P inv room formed keys_fine Fine calls others rank g below same x vars env ty h ok b l)

  called_alike : (f : ℕ) (s : Signature) (xs : List (Abs W N)) (l : List Seen) → (group_of spec f ≡ g) ⊎ (rank (group_of spec f) < rank g) → slice_get (environment_of spec).funs f ≡ Some s
      → AreOf B c cap (environment_of spec) P s.params xs → called B c cap spec a calls g f xs l ≡ called B c cap spec a others g f xs l
  called_alike f s xs l order e h = at (group_of spec f == g) refl order
    where
      at : (b : Bool) → (group_of spec f == g) ≡ b → (group_of spec f ≡ g) ⊎ (rank (group_of spec f) < rank g)
          → cond b (gives (asked_with spec f xs) l) (leaf_of B c cap spec a calls (behind l (calls f xs))) ≡ cond b (gives (asked_with spec f xs) l) (leaf_of B c cap spec a others (behind l (others f xs)))
      at true is order = refl
      at false is (inl same) = absurd (grind (arith, nat_tests))
      at false is (inr lt) = ap (λ r. leaf_of B c cap spec a calls (behind l r)) (same f s xs lt e h)

  mutual
    pub turn_alike : (x : Core) (vars : List Ty) (env : List (Abs W N)) → AreOf B c cap (environment_of spec) P vars env → HasCoreType (environment_of spec) vars x ty → CallsInOrder (group_of spec) rank g x
        → (l : List Seen) → turn_of B c cap spec a calls g env x l ≡ turn_of B c cap spec a others g env x l
    turn_alike (t.let_in x y) vars env h ok b l =
        first x vars env ok.0 l _ _ h ok.1 b.0 (λ p l hp.
        turn_alike y (vars ++ ok.0 ∷ []) (env ++ p ∷ []) (are_append B c cap (environment_of spec) P vars (ok.0 ∷ []) env (p ∷ []) h (hp, tt)) ok.2 b.1 l)
    turn_alike (t.if_else k x y) vars env h ok b l =
        first k vars env Flag l _ _ h ok.0 b.0 (λ p l hp.
        branch_alike (join_yields B c cap spec a) (flag_there (Some p)) _ _ _ _ (turn_alike x vars env h ok.1 b.1) (turn_alike y vars env h ok.2 b.2) l)
    turn_alike (t.choose x by arms) vars env h ok b l =
        first x vars env ok.0 l _ _ h ok.1 b.0 (λ p l hp.
        decided_alike B c (join_yields B c cap spec a) (λ r vs m. turn_arm B c cap spec a calls g env arms r vs m) (λ r vs m. turn_arm B c cap spec a others g env arms r vs m) p (environment_of spec) ok.0
        (λ r binds. (more : List Ty) × (types_named (environment_of spec) ok.0 binds ≡ Some more) × ArmHasType (environment_of spec) vars arms r more ty)
        (λ r binds q. arm_alike B c cap (environment_of spec) P (abs_named p binds) (λ vs m. turn_arm B c cap spec a calls g env arms r vs m) (λ vs m. turn_arm B c cap spec a others g env arms r vs m) q.0
        (named_kept B c cap (environment_of spec) a P inv p ok.0 binds q.0 hp q.1) (λ vs hvs. turn_arm_alike arms r vars env q.0 vs h hvs q.2 b.1)) by ok.2 l)
    turn_alike (t.call f args) vars env h ok b l =
        bind_alike Fine _ l (values_of B c cap spec a calls env args l) (values_of B c cap spec a others env args l) _ _
        (values_kept B laws c cap spec a P inv room formed keys_fine Fine calls rank g below args vars env ok.0.params l h ok.2 b.1)
        (values_alike B laws c cap spec a P inv room formed keys_fine Fine calls others rank g below same args vars env ok.0.params h ok.2 b.1 l) (λ ps l hps. called_alike f ok.0 ps l b.0 ok.1 hps)
    turn_alike (t.var n) vars env h ok b l = as_leaf (t.var n) vars env h ok b l
    turn_alike (t.flag q) vars env h ok b l = as_leaf (t.flag q) vars env h ok b l
    turn_alike (t.word w v) vars env h ok b l = as_leaf (t.word w v) vars env h ok b l
    turn_alike (t.un op w x) vars env h ok b l = as_leaf (t.un op w x) vars env h ok b l
    turn_alike (t.bin op w x y) vars env h ok b l = as_leaf (t.bin op w x y) vars env h ok b l
    turn_alike (t.test k w x y) vars env h ok b l = as_leaf (t.test k w x y) vars env h ok b l
    turn_alike (t.cast kind from to x) vars env h ok b l = as_leaf (t.cast kind from to x) vars env h ok b l
    turn_alike (t.make d k args) vars env h ok b l = as_leaf (t.make d k args) vars env h ok b l
    turn_alike (t.get m x k) vars env h ok b l = as_leaf (t.get m x k) vars env h ok b l
    turn_alike (t.put m x k v) vars env h ok b l = as_leaf (t.put m x k v) vars env h ok b l

    turn_arm_alike : (ts : Cores) (r : ℕ) (vars : List Ty) (env : List (Abs W N)) (more : List Ty) (vs : List (Abs W N)) → AreOf B c cap (environment_of spec) P vars env → AreOf B c cap (environment_of spec) P more vs
        → ArmHasType (environment_of spec) vars ts r more ty → AllCallInOrder (group_of spec) rank g ts → (l : List Seen) → turn_arm B c cap spec a calls g env ts r vs l ≡ turn_arm B c cap spec a others g env ts r vs l
    turn_arm_alike t.no_core r vars env more vs h k ok b l = absurd ok
    turn_arm_alike (t.core_then x rest) zero vars env more vs h k ok b l = turn_alike x (vars ++ more) (env ++ vs) (are_append B c cap (environment_of spec) P vars more env vs h k) ok b.0 l
    turn_arm_alike (t.core_then x rest) (suc r) vars env more vs h k ok b l = turn_arm_alike rest r vars env more vs h k ok b.1 l

  -- ---- the bodies of a group
  module _ (right : (f : ℕ) (fun : Fun) → slice_get spec.funs f ≡ Some fun → group_of spec f ≡ g → HasCoreType (environment_of spec) fun.params fun.core ty × CallsInOrder (group_of spec) rank g fun.core) where
    body_alike : (f : ℕ) (o : Option Fun) → slice_get spec.funs f ≡ o → (xs : List (Abs W N)) → ArgsOf B laws c cap spec a P g f xs → AreAlike (body_turn B c cap spec a calls g o xs) (body_turn B c cap spec a others g o xs)
    body_alike f None e xs h l = refl
    body_alike f (Some fun) e xs h l =
        let ok = right f fun e h.of_group in
        turn_alike fun.core fun.params xs (subst (λ o. AreOf B c cap (environment_of spec) P (params_in o) xs) e h.are) ok.0 ok.1 l

    bodies_alike : (on other : ℕ → List (Abs W N) → Evaluation (Yield (GroupArgs W N) (Abs W N))) (Q : ℕ → List (Abs W N) → Type 0) (args : GroupArgs W N) → EachIs Q args
        → ((f : ℕ) (xs : List (Abs W N)) → Q f xs → AreAlike (on f xs) (other f xs)) → AllAlike (bodies B c cap spec a on args) (bodies B c cap spec a other args)
    bodies_alike on other Q [] h go = tt
    bodies_alike on other Q (None ∷ rest) h go = bodies_alike (λ i. on (suc i)) (λ i. other (suc i)) (λ i. Q (suc i)) rest h.1 (λ i. go (suc i))
    bodies_alike on other Q (Some xs ∷ rest) h go = (go zero xs h.0, bodies_alike (λ i. on (suc i)) (λ i. other (suc i)) (λ i. Q (suc i)) rest h.1 (λ i. go (suc i)))

    pub group_alike : (args : GroupArgs W N) → EachIs (ArgsOf B laws c cap spec a P g) args → AreAlike (group_turn B c cap spec a calls g args) (group_turn B c cap spec a others g args)
    group_alike args h = joined_alike (join_yields B c cap spec a) _ _
        (bodies_alike (λ i xs. body_turn B c cap spec a calls g (slice_get spec.funs i) xs) (λ i xs. body_turn B c cap spec a others g (slice_get spec.funs i) xs) (ArgsOf B laws c cap spec a P g) args h
        (λ f xs k. body_alike f (slice_get spec.funs f) refl xs k))
