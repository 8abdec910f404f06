-- Terms give the same where calls of lower groups do.
use Rattle.std.proofs.Common.{◌≡◌, ℕ, zero, suc, ◌<◌, List, [], ◌∷◌, ◌++◌, Option, Some, None, slice_get, refl, ap}
use Rattle.std.specs.Prelude.{IfSome}
use Rattle.base_trait.specs.Algebra.{Algebra}
use Rattle.base_trait.specs.Laws.{Laws}
use Rattle.base_trait.specs.Uses.{Seen}
use Rattle.abstract_map_laws.specs.Laws.{HasRoom}
use Rattle.spec_ir.specs.declared.ty.Ty.{Ty}
use Rattle.spec_ir.specs.declared.ty.Ty.TheVariants.{Bool as Flag, Word, Data as DataTy, Map as MapOf}
use Rattle.spec_ir.specs.CoreTerms as t
use Rattle.spec_ir.specs.CoreTerms.{Core, Cores}
use Rattle.spec_ir.specs.Environment.{Environment, Signature, key_type, value_type}
use Rattle.spec_ir.specs.Specification.{Spec}
use Rattle.spec_ir.specs.Texts.{case_at, fields_at}
use Rattle.spec_ir.specs.WellFormed.{IsWellFormed}
use Rattle.semantics_values.specs.Types.{environment_of}
use Rattle.semantics.specs.Direct.{group_of}
use Rattle.semantics_laws.specs.Places.{types_named}
use Rattle.semantics_laws.specs.CoreTypes.{HasCoreType, HaveCoreTypes, ArmHasType}
use Rattle.semantics_laws.specs.CoreCalls.{CallsBelow, AllCallBelow}
use Rattle.abstract_value_laws.specs.Abs.{Abs}
use Rattle.abstract_value_laws.specs.Calls.{join_of}
use Rattle.abstract_semantics.specs.Answers.{Answer, Evaluation, behind, ◌>>=◌}
use Rattle.abstract_semantics.specs.Choices.{abs_named, arm_on, flag_there}
use Rattle.abstract_semantics.specs.Terms.{arm_of, value_of, values_of}
use Rattle.abstract_semantics.proofs.Alike.{AreAlike, bind_alike, branch_alike, decided_alike}
use Rattle.abstract_semantics.proofs.Chosen.{named_kept}
use Rattle.abstract_semantics.proofs.Kept.{IsKept}
use Rattle.abstract_semantics.proofs.Stepped.{Invariant}
use Rattle.abstract_semantics.proofs.Termed.{KeysAreFine, value_kept, values_kept}
use Rattle.abstract_semantics.proofs.Typed.{AreOf, IsOf, are_append}

-- an arm on what its variables name
pub arm_alike : {W N C A : Type 0} (B : Algebra W N C) (c : C) (cap : ℕ) (env : Environment) (P : Abs W N → Type 0) (o : Option (List (Abs W N))) (arm other : List (Abs W N) → Evaluation A) (more : List Ty)
    → IfSome o (AreOf B c cap env P more) → ((vs : List (Abs W N)) → AreOf B c cap env P more vs → AreAlike (arm vs) (other vs)) → AreAlike (arm_on arm o) (arm_on other o)
arm_alike B c cap env P None arm other more h go l = refl
arm_alike B c cap env P (Some vs) arm other more h go l = go vs h l

module _ {W N C : Type 0} (B : Algebra W N C) (laws : Laws W N C B) (c : C) (cap : ℕ) (spec : Spec) (a : ℕ) (P : Abs W N → Type 0) (inv : Invariant B c cap (environment_of spec) a P)
    (room : HasRoom B cap) (formed : IsWellFormed (environment_of spec)) (keys_fine : KeysAreFine (environment_of spec))
    (Fine : Type 0) (calls others : ℕ → List (Abs W N) → Answer (Abs W N)) (rank : ℕ → ℕ) (g : ℕ)
    (below : (f : ℕ) (s : Signature) (xs : List (Abs W N)) → rank (group_of spec f) < rank g → slice_get (environment_of spec).funs f ≡ Some s → AreOf B c cap (environment_of spec) P s.params xs
    → IsKept Fine (IsOf B c cap (environment_of spec) P s.result_type) [] (calls f xs))
    (same : (f : ℕ) (s : Signature) (xs : List (Abs W N)) → rank (group_of spec f) < rank g → slice_get (environment_of spec).funs f ≡ Some s → AreOf B c cap (environment_of spec) P s.params xs → calls f xs ≡ others f xs) where
  abbrev valued : (x : Core) (vars : List Ty) (env : List (Abs W N)) (ty : Ty) (l : List Seen) → AreOf B c cap (environment_of spec) P vars env → HasCoreType (environment_of spec) vars x ty → CallsBelow (group_of spec) rank g x
      → IsKept Fine (IsOf B c cap (environment_of spec) P ty) l (value_of B c cap spec a calls env x l)
  valued = value_kept B laws c cap spec a P inv room formed keys_fine Fine calls rank g below

  abbrev all_valued : (ts : Cores) (vars : List Ty) (env : List (Abs W N)) (tys : List Ty) (l : List Seen) → AreOf B c cap (environment_of spec) P vars env → HaveCoreTypes (environment_of spec) vars ts tys
      → AllCallBelow (group_of spec) rank g ts → IsKept Fine (AreOf B c cap (environment_of spec) P tys) l (values_of B c cap spec a calls env ts l)
  all_valued = values_kept B laws c cap spec a P inv room formed keys_fine Fine calls rank g below

  -- a term whose value goes on into something that gives the same
  abbrev first : {A : Type 0} (x : Core) (vars : List Ty) (env : List (Abs W N)) (ty : Ty) (l : List Seen) (f h : Abs W N → List Seen → Answer A) → AreOf B c cap (environment_of spec) P vars env → HasCoreType (environment_of spec) vars x ty
      → CallsBelow (group_of spec) rank g x → value_of B c cap spec a calls env x l ≡ value_of B c cap spec a others env x l
      → ((z : Abs W N) (m : List Seen) → IsOf B c cap (environment_of spec) P ty z → f z m ≡ h z m) → value_of B c cap spec a calls env x l >>= f ≡ value_of B c cap spec a others env x l >>= h
  first x vars env ty l f h are ok b e go = bind_alike Fine (IsOf B c cap (environment_of spec) P ty) l (value_of B c cap spec a calls env x l) (value_of B c cap spec a others env x l) f h (valued x vars env ty l are ok b) e go

  mutual
    pub value_alike : (x : Core) (vars : List Ty) (env : List (Abs W N)) (ty : Ty) → AreOf B c cap (environment_of spec) P vars env → HasCoreType (environment_of spec) vars x ty → CallsBelow (group_of spec) rank g x
        → (l : List Seen) → value_of B c cap spec a calls env x l ≡ value_of B c cap spec a others env x l
    value_alike (t.var n) vars env ty h ok b l = refl
    value_alike (t.flag q) vars env ty h ok b l = refl
    value_alike (t.word w v) vars env ty h ok b l = refl
    value_alike (t.un op w x) vars env ty h ok b l = first x vars env (Word w) l _ _ h ok.0 b (value_alike x vars env (Word w) h ok.0 b l) (λ p l hp. refl)
    value_alike (t.bin op w x y) vars env ty h ok b l =
        first x vars env (Word w) l _ _ h ok.0 b.0 (value_alike x vars env (Word w) h ok.0 b.0 l) (λ p l hp.
        first y vars env (Word w) l _ _ h ok.1 b.1 (value_alike y vars env (Word w) h ok.1 b.1 l) (λ q l hq. refl))
    value_alike (t.test k w x y) vars env ty h ok b l =
        first x vars env (Word w) l _ _ h ok.0 b.0 (value_alike x vars env (Word w) h ok.0 b.0 l) (λ p l hp.
        first y vars env (Word w) l _ _ h ok.1 b.1 (value_alike y vars env (Word w) h ok.1 b.1 l) (λ q l hq. refl))
    value_alike (t.cast kind from to x) vars env ty h ok b l = first x vars env (Word from) l _ _ h ok.0 b (value_alike x vars env (Word from) h ok.0 b l) (λ p l hp. refl)
    value_alike (t.let_in x y) vars env ty h ok b l =
        first x vars env ok.0 l _ _ h ok.1 b.0 (value_alike x vars env ok.0 h ok.1 b.0 l) (λ p l hp.
        value_alike y (vars ++ ok.0 ∷ []) (env ++ p ∷ []) ty (are_append B c cap (environment_of spec) P vars (ok.0 ∷ []) env (p ∷ []) h (hp, tt)) ok.2 b.1 l)
    value_alike (t.if_else k x y) vars env ty h ok b l =
        first k vars env Flag l _ _ h ok.0 b.0 (value_alike k vars env Flag h ok.0 b.0 l) (λ p l hp.
        branch_alike (join_of B c cap) (flag_there (Some p)) _ _ _ _ (value_alike x vars env ty h ok.1 b.1) (value_alike y vars env ty h ok.2 b.2) l)
    value_alike (t.choose x by arms) vars env ty h ok b l =
        first x vars env ok.0 l _ _ h ok.1 b.0 (value_alike x vars env ok.0 h ok.1 b.0 l) (λ p l hp.
        decided_alike B c (join_of B c cap) (λ r vs m. arm_of B c cap spec a calls env arms r vs m) (λ r vs m. arm_of B c cap spec a others env arms r vs m) p (environment_of spec) ok.0
        (λ r binds. (more : List Ty) × (types_named (environment_of spec) ok.0 binds ≡ Some more) × ArmHasType (environment_of spec) vars arms r more ty)
        (λ r binds q. arm_alike B c cap (environment_of spec) P (abs_named p binds) (λ vs m. arm_of B c cap spec a calls env arms r vs m) (λ vs m. arm_of B c cap spec a others env arms r vs m) q.0
        (named_kept B c cap (environment_of spec) a P inv p ok.0 binds q.0 hp q.1) (λ vs hvs. arm_of_alike arms r vars env q.0 vs ty h hvs q.2 b.1)) by ok.2 l)
    value_alike (t.make d k args) vars env ty h ok b l =
        bind_alike Fine _ l (values_of B c cap spec a calls env args l) (values_of B c cap spec a others env args l) _ _ (all_valued args vars env (fields_at (case_at (environment_of spec) (DataTy d) k)) l h ok.1 b)
        (values_alike args vars env (fields_at (case_at (environment_of spec) (DataTy d) k)) h ok.1 b l) (λ ps l hps. refl)
    value_alike (t.call f args) vars env ty h ok b l =
        bind_alike Fine _ l (values_of B c cap spec a calls env args l) (values_of B c cap spec a others env args l) _ _ (all_valued args vars env ok.0.params l h ok.2 b.1)
        (values_alike args vars env ok.0.params h ok.2 b.1 l) (λ ps l hps. ap (behind l) (same f ok.0 ps b.0 ok.1 hps))
    value_alike (t.get m x k) vars env ty h ok b l =
        first x vars env (MapOf m) l _ _ h ok.1 b.0 (value_alike x vars env (MapOf m) h ok.1 b.0 l) (λ p l hp.
        first k vars env (key_type (environment_of spec) m) l _ _ h ok.2 b.1 (value_alike k vars env (key_type (environment_of spec) m) h ok.2 b.1 l) (λ q l hq. refl))
    value_alike (t.put m x k v) vars env ty h ok b l =
        first x vars env (MapOf m) l _ _ h ok.1 b.0 (value_alike x vars env (MapOf m) h ok.1 b.0 l) (λ p l hp.
        first k vars env (key_type (environment_of spec) m) l _ _ h ok.2 b.1 (value_alike k vars env (key_type (environment_of spec) m) h ok.2 b.1 l) (λ q l hq.
        first v vars env (value_type (environment_of spec) m) l _ _ h ok.3 b.2 (value_alike v vars env (value_type (environment_of spec) m) h ok.3 b.2 l) (λ r l hr. refl)))

    pub values_alike : (ts : Cores) (vars : List Ty) (env : List (Abs W N)) (tys : List Ty) → AreOf B c cap (environment_of spec) P vars env → HaveCoreTypes (environment_of spec) vars ts tys → AllCallBelow (group_of spec) rank g ts
        → (l : List Seen) → values_of B c cap spec a calls env ts l ≡ values_of B c cap spec a others env ts l
    values_alike t.no_core vars env tys h ok b l = refl
    values_alike (t.core_then x rest) vars env [] h ok b l = absurd ok
    values_alike (t.core_then x rest) vars env (ty ∷ tys) h ok b l =
        first x vars env ty l _ _ h ok.0 b.0 (value_alike x vars env ty h ok.0 b.0 l) (λ p l hp.
        bind_alike Fine _ l (values_of B c cap spec a calls env rest l) (values_of B c cap spec a others env rest l) _ _ (all_valued rest vars env tys l h ok.1 b.1) (values_alike rest vars env tys h ok.1 b.1 l) (λ ps l hps. refl))

    arm_of_alike : (ts : Cores) (r : ℕ) (vars : List Ty) (env : List (Abs W N)) (more : List Ty) (vs : List (Abs W N)) (ty : Ty) → AreOf B c cap (environment_of spec) P vars env → AreOf B c cap (environment_of spec) P more vs
        → ArmHasType (environment_of spec) vars ts r more ty → AllCallBelow (group_of spec) rank g ts → (l : List Seen) → arm_of B c cap spec a calls env ts r vs l ≡ arm_of B c cap spec a others env ts r vs l
    arm_of_alike t.no_core r vars env more vs ty h k ok b l = absurd ok
    arm_of_alike (t.core_then x rest) zero vars env more vs ty h k ok b l = value_alike x (vars ++ more) (env ++ vs) ty (are_append B c cap (environment_of spec) P vars more env vs h k) ok b.0 l
    arm_of_alike (t.core_then x rest) (suc r) vars env more vs ty h k ok b l = arm_of_alike rest r vars env more vs ty h k ok b.1 l
