-- Turns log uses of a property alone, and so do activations.
use Rattle.std.proofs.Common.{◌≡◌, ℕ, zero, suc, ◌<◌, ◌⊎◌, inl, inr, Bool, true, false, cond, List, [], ◌∷◌, ◌++◌, Option, Some, None, slice_get, refl, subst, arith}
use Rattle.std.specs.Prelude.{◌==◌, IfSome}
use Rattle.std.proofs.lemmas.Bool.Decides.{nat_tests}
use Rattle.base_trait.specs.Algebra.{Algebra}
use Rattle.base_trait.specs.Laws.{Laws}
use Rattle.base_trait.specs.Lists.{Each}
use Rattle.base_trait.specs.Uses.{Seen}
use Rattle.abstract_map_laws.specs.Laws.{HasRoom}
use Rattle.spec_ir.specs.declared.ty.Ty.{Ty}
use Rattle.spec_ir.specs.declared.ty.Ty.TheVariants.{Bool as Flag}
use Rattle.spec_ir.specs.CoreTerms as t
use Rattle.spec_ir.specs.CoreTerms.{Core, Cores}
use Rattle.spec_ir.specs.Environment.{Signature}
use Rattle.spec_ir.specs.Specification.{Spec, Fun}
use Rattle.spec_ir.specs.WellFormed.{IsWellFormed}
use Rattle.semantics_values.specs.Types.{environment_of}
use Rattle.semantics.specs.Direct.{group_of}
use Rattle.semantics_laws.specs.Places.{types_named}
use Rattle.semantics_laws.specs.CoreTypes.{HasCoreType, ArmHasType}
use Rattle.semantics_laws.specs.CoreCalls.{CallsBelow, CallsInOrder, AllCallInOrder}
use Rattle.abstract_value_laws.specs.Abs.{Abs}
use Rattle.support_tail_fixpoint.specs.Groups.{EachIs}
use Rattle.support_tail_fixpoint.specs.Answer.{Yield, fails, gives}
use Rattle.abstract_semantics.specs.Answers.{Answer, Evaluation, behind}
use Rattle.abstract_semantics.specs.Choices.{abs_named, arm_on, flag_there}
use Rattle.abstract_semantics.specs.Terms.{GroupArgs, asked_with, bodies, body_turn, called, group_turn, join_yields, leaf_of, params_in, turn_arm, turn_of, value_of, values_of}
use Rattle.abstract_semantics.proofs.Kept.{IsKept}
use Rattle.abstract_semantics.proofs.Typed.{IsOf, AreOf, are_append}
use Rattle.abstract_semantics.proofs.Stepped.{Invariant}
use Rattle.abstract_semantics.proofs.Chosen.{named_kept}
use Rattle.abstract_semantics.proofs.Termed.{ArgsOf, KeysAreFine}
use Rattle.analysis_transfer_laws.proofs.Logs.{AllLogging, IsLogged, Logging, behind_logged, bind_logged, branch_logged, decided_logged, joined_logged}
use Rattle.analysis_transfer_laws.proofs.LoggedTerms.{ReadsAre, all_valued, value_logged, values_logged, valued}

module _ {W N C : Type 0} (B : Algebra W N C) (laws : Laws W N C B) (c : C) (cap : ℕ) (spec : Spec) (a : ℕ) (P : Abs W N → Type 0) (inv : Invariant B c cap (environment_of spec) a P)
    (room : HasRoom B cap) (formed : IsWellFormed (environment_of spec)) (keys_fine : KeysAreFine (environment_of spec)) (U : Seen → Type 0) (reads : ReadsAre B c (environment_of spec) P U)
    (calls : ℕ → List (Abs W N) → Answer (Abs W N)) (rank : ℕ → ℕ) (g : ℕ)
    (below : (f : ℕ) (s : Signature) (xs : List (Abs W N)) → rank (group_of spec f) < rank g → slice_get (environment_of spec).funs f ≡ Some s → AreOf B c cap (environment_of spec) P s.params xs
    → IsKept (Unit {0}) (IsOf B c cap (environment_of spec) P s.result_type) [] (calls f xs))
    (logged_below : (f : ℕ) (s : Signature) (xs : List (Abs W N)) → rank (group_of spec f) < rank g → slice_get (environment_of spec).funs f ≡ Some s → AreOf B c cap (environment_of spec) P s.params xs → IsLogged U (calls f xs)) where
  abbrev IsIn : Ty → Abs W N → Type 0
  IsIn = IsOf B c cap (environment_of spec) P

  abbrev AreIn : List Ty → List (Abs W N) → Type 0
  AreIn = AreOf B c cap (environment_of spec) P

  leaf_logged : (r : Answer (Abs W N)) → IsLogged U r → IsLogged U (leaf_of B c cap spec a calls r)
  leaf_logged (fails i) h = tt
  leaf_logged (gives None l) h = h
  leaf_logged (gives (Some x) l) h = h

  called_logged : (f : ℕ) (s : Signature) (xs : List (Abs W N)) (l : List Seen) → (group_of spec f ≡ g) ⊎ (rank (group_of spec f) < rank g) → slice_get (environment_of spec).funs f ≡ Some s
      → AreIn s.params xs → Each U l → IsLogged U (called B c cap spec a calls g f xs l)
  called_logged f s xs l order e h k = at (group_of spec f == g) refl order
    where
      at : (b : Bool) → (group_of spec f == g) ≡ b → (group_of spec f ≡ g) ⊎ (rank (group_of spec f) < rank g)
          → IsLogged U (cond b (gives (asked_with spec f xs) l) (leaf_of B c cap spec a calls (behind l (calls f xs))))
      at true is order = k
      at false is (inl same) = absurd (grind (arith, nat_tests))
      at false is (inr lt) = leaf_logged (behind l (calls f xs)) (behind_logged U l (calls f xs) k (logged_below f s xs lt e h))

  arm_given : (o : Option (List (Abs W N))) (arm : List (Abs W N) → Evaluation (Yield (GroupArgs W N) (Abs W N))) (more : List Ty) (l : List Seen) → IfSome o (AreIn more) → Each U l
      → ((vs : List (Abs W N)) → AreIn more vs → IsLogged U (arm vs l)) → IsLogged U (arm_on arm o l)
  arm_given None arm more l h k go = k
  arm_given (Some vs) arm more l h k go = go vs h

  abbrev kept : (x : Core) (vars : List Ty) (env : List (Abs W N)) (s : Ty) (l : List Seen) → AreOf B c cap (environment_of spec) P vars env → HasCoreType (environment_of spec) vars x s → CallsBelow (group_of spec) rank g x
      → IsKept (Unit {0}) (IsOf B c cap (environment_of spec) P s) l (value_of B c cap spec a calls env x l)
  kept = valued B laws c cap spec a P inv room formed keys_fine U reads calls rank g below logged_below

  abbrev logged : (x : Core) (vars : List Ty) (env : List (Abs W N)) (s : Ty) (l : List Seen) → AreOf B c cap (environment_of spec) P vars env → HasCoreType (environment_of spec) vars x s → CallsBelow (group_of spec) rank g x → Each U l
      → IsLogged U (value_of B c cap spec a calls env x l)
  logged = value_logged B laws c cap spec a P inv room formed keys_fine U reads calls rank g below logged_below

  as_leaf : (x : Core) (vars : List Ty) (env : List (Abs W N)) (ty : Ty) (l : List Seen) → AreIn vars env → HasCoreType (environment_of spec) vars x ty → CallsBelow (group_of spec) rank g x → Each U l
      → IsLogged U (leaf_of B c cap spec a calls (value_of B c cap spec a calls env x l))
  as_leaf x vars env ty l h ok b k = leaf_logged (value_of B c cap spec a calls env x l) (logged x vars env ty l h ok b k)

  mutual
    pub turn_logged : (x : Core) (vars : List Ty) (env : List (Abs W N)) (ty : Ty) (l : List Seen) → AreIn vars env → HasCoreType (environment_of spec) vars x ty → CallsInOrder (group_of spec) rank g x → Each U l
        → IsLogged U (turn_of B c cap spec a calls g env x l)
    turn_logged (t.let_in x y) vars env ty l h ok b k =
        bind_logged U (IsIn ok.0) l (value_of B c cap spec a calls env x l) _ (kept x vars env ok.0 l h ok.1 b.0) (logged x vars env ok.0 l h ok.1 b.0 k) (λ p l hp k.
        turn_logged y (vars ++ ok.0 ∷ []) (env ++ p ∷ []) ty l (are_append B c cap (environment_of spec) P vars (ok.0 ∷ []) env (p ∷ []) h (hp, tt)) ok.2 b.1 k)
    turn_logged (t.if_else q x y) vars env ty l h ok b k =
        bind_logged U (IsIn Flag) l (value_of B c cap spec a calls env q l) _ (kept q vars env Flag l h ok.0 b.0) (logged q vars env Flag l h ok.0 b.0 k) (λ p l hp k.
        branch_logged U (join_yields B c cap spec a) (flag_there (Some p)) _ _ (λ l k. turn_logged x vars env ty l h ok.1 b.1 k) (λ l k. turn_logged y vars env ty l h ok.2 b.2 k) l k)
    turn_logged (t.choose x by arms) vars env ty l h ok b k =
        bind_logged U (IsIn ok.0) l (value_of B c cap spec a calls env x l) _ (kept x vars env ok.0 l h ok.1 b.0) (logged x vars env ok.0 l h ok.1 b.0 k) (λ p l hp k.
        decided_logged U (join_yields B c cap spec a) B c (environment_of spec) (λ r vs m. turn_arm B c cap spec a calls g env arms r vs m) p ok.0
        (λ r binds. (more : List Ty) × (types_named (environment_of spec) ok.0 binds ≡ Some more) × ArmHasType (environment_of spec) vars arms r more ty)
        (λ r binds q l k. arm_given (abs_named p binds) (λ vs m. turn_arm B c cap spec a calls g env arms r vs m) q.0 l (named_kept B c cap (environment_of spec) a P inv p ok.0 binds q.0 hp q.1) k
        (λ vs hvs. turn_arm_logged arms r vars env q.0 vs ty l h hvs q.2 b.1 k)) by ok.2 l k)
    turn_logged (t.call f args) vars env ty l h ok b k =
        bind_logged U (AreIn ok.0.params) l (values_of B c cap spec a calls env args l) _ (all_valued B laws c cap spec a P inv room formed keys_fine U reads calls rank g below logged_below args vars env ok.0.params l h ok.2 b.1)
        (values_logged B laws c cap spec a P inv room formed keys_fine U reads calls rank g below logged_below args vars env ok.0.params l h ok.2 b.1 k) (λ ps l hps k. called_logged f ok.0 ps l b.0 ok.1 hps k)
    turn_logged (t.var n) vars env ty l h ok b k = as_leaf (t.var n) vars env ty l h ok b k
    turn_logged (t.flag q) vars env ty l h ok b k = as_leaf (t.flag q) vars env ty l h ok b k
    turn_logged (t.word w v) vars env ty l h ok b k = as_leaf (t.word w v) vars env ty l h ok b k
    turn_logged (t.un op w x) vars env ty l h ok b k = as_leaf (t.un op w x) vars env ty l h ok b k
    turn_logged (t.bin op w x y) vars env ty l h ok b k = as_leaf (t.bin op w x y) vars env ty l h ok b k
    turn_logged (t.test q w x y) vars env ty l h ok b k = as_leaf (t.test q w x y) vars env ty l h ok b k
    turn_logged (t.cast kind from to x) vars env ty l h ok b k = as_leaf (t.cast kind from to x) vars env ty l h ok b k
    turn_logged (t.make d n args) vars env ty l h ok b k = as_leaf (t.make d n args) vars env ty l h ok b k
    turn_logged (t.get m x q) vars env ty l h ok b k = as_leaf (t.get m x q) vars env ty l h ok b k
    turn_logged (t.put m x q v) vars env ty l h ok b k = as_leaf (t.put m x q v) vars env ty l h ok b k

    pub turn_arm_logged : (ts : Cores) (r : ℕ) (vars : List Ty) (env : List (Abs W N)) (more : List Ty) (vs : List (Abs W N)) (ty : Ty) (l : List Seen) → AreIn vars env → AreIn more vs
        → ArmHasType (environment_of spec) vars ts r more ty → AllCallInOrder (group_of spec) rank g ts → Each U l → IsLogged U (turn_arm B c cap spec a calls g env ts r vs l)
    turn_arm_logged t.no_core r vars env more vs ty l h m ok b k = absurd ok
    turn_arm_logged (t.core_then x rest) zero vars env more vs ty l h m ok b k = turn_logged x (vars ++ more) (env ++ vs) ty l (are_append B c cap (environment_of spec) P vars more env vs h m) ok b.0 k
    turn_arm_logged (t.core_then x rest) (suc r) vars env more vs ty l h m ok b k = turn_arm_logged rest r vars env more vs ty l h m ok b.1 k

  -- ---- the bodies of a group
  module _ (ty : Ty) (right : (f : ℕ) (fun : Fun) → slice_get spec.funs f ≡ Some fun → group_of spec f ≡ g → HasCoreType (environment_of spec) fun.params fun.core ty × CallsInOrder (group_of spec) rank g fun.core) where
    body_logged : (f : ℕ) (o : Option Fun) → slice_get spec.funs f ≡ o → (xs : List (Abs W N)) → ArgsOf B laws c cap spec a P g f xs → Logging U (body_turn B c cap spec a calls g o xs)
    body_logged f None e xs h l k = k
    body_logged f (Some fun) e xs h l k =
        let ok = right f fun e h.of_group in
        turn_logged fun.core fun.params xs ty l (subst (λ o. AreIn (params_in o) xs) e h.are) ok.0 ok.1 k

    bodies_logged : (on : ℕ → List (Abs W N) → Evaluation (Yield (GroupArgs W N) (Abs W N))) (Q : ℕ → List (Abs W N) → Type 0) (args : GroupArgs W N) → EachIs Q args
        → ((f : ℕ) (xs : List (Abs W N)) → Q f xs → Logging U (on f xs)) → AllLogging U (bodies B c cap spec a on args)
    bodies_logged on Q [] h go = tt
    bodies_logged on Q (None ∷ rest) h go = bodies_logged (λ i. on (suc i)) (λ i. Q (suc i)) rest h.1 (λ i. go (suc i))
    bodies_logged on Q (Some xs ∷ rest) h go = (go zero xs h.0, bodies_logged (λ i. on (suc i)) (λ i. Q (suc i)) rest h.1 (λ i. go (suc i)))

    pub group_logged : (args : GroupArgs W N) → EachIs (ArgsOf B laws c cap spec a P g) args → Logging U (group_turn B c cap spec a calls g args)
    group_logged args h = joined_logged U (join_yields B c cap spec a) _
        (bodies_logged (λ i xs. body_turn B c cap spec a calls g (slice_get spec.funs i) xs) (ArgsOf B laws c cap spec a P g) args h (λ f xs k. body_logged f (slice_get spec.funs f) refl xs k))
