-- Terms log uses of a property alone, where reads of maps have it.
use Rattle.std.proofs.Common.{◌≡◌, ℕ, zero, suc, ◌<◌, Bool, true, false, cond, List, [], ◌∷◌, ◌++◌, length, Option, Some, None, slice_get, refl, sym, subst}
use Rattle.std.specs.Prelude.{◌==◌, IfSome}
use Rattle.base_trait.specs.Algebra.{Algebra}
use Rattle.base_trait.specs.Laws.{Laws}
use Rattle.base_trait.specs.Lists.{Each}
use Rattle.base_trait.specs.Uses.{Seen}
use Rattle.abstract_map_laws.specs.Calls.{access_of}
use Rattle.abstract_map_laws.specs.Keys.{Keys}
use Rattle.abstract_map_laws.specs.Laws.{HasRoom}
use Rattle.abstract_map_laws.specs.Maps.{Map}
use Rattle.spec_ir.specs.declared.ty.Ty.{Ty}
use Rattle.spec_ir.specs.declared.ty.Ty.TheVariants.{Bool as Flag, Word, Data as DataTy, Map as MapOf}
use Rattle.spec_ir.specs.CoreTerms as t
use Rattle.spec_ir.specs.CoreTerms.{Core, Cores}
use Rattle.spec_ir.specs.Environment.{Environment, Signature, key_type, value_type}
use Rattle.spec_ir.specs.Specification.{Spec}
use Rattle.spec_ir.specs.Texts.{case_at, fields_at}
use Rattle.spec_ir.specs.WellFormed.{IsWellFormed}
use Rattle.semantics_values.specs.Types.{environment_of, key_count}
use Rattle.semantics.specs.Direct.{group_of}
use Rattle.semantics_laws.specs.Places.{types_named}
use Rattle.semantics_laws.specs.CoreTypes.{HasCoreType, HaveCoreTypes, ArmHasType}
use Rattle.semantics_laws.specs.CoreCalls.{CallsBelow, AllCallBelow}
use Rattle.abstract_value_laws.specs.Abs.{Abs, map}
use Rattle.abstract_value_laws.specs.Calls.{join_of}
use Rattle.support_tail_fixpoint.specs.Answer.{gives}
use Rattle.abstract_semantics.specs.Answers.{Answer, Evaluation}
use Rattle.abstract_semantics.specs.Choices.{abs_named, arm_on, flag_there}
use Rattle.abstract_semantics.specs.Keys.{keys_of, named_key}
use Rattle.abstract_semantics.specs.Steps.{accessed, read_of}
use Rattle.abstract_semantics.specs.Terms.{arm_of, value_of, values_of}
use Rattle.abstract_semantics.proofs.Kept.{IsKept}
use Rattle.abstract_semantics.proofs.Keyed.{IsBelow, key_below}
use Rattle.abstract_semantics.proofs.Typed.{IsOf, AreOf, are_append, map_there}
use Rattle.abstract_semantics.proofs.Stepped.{Invariant}
use Rattle.abstract_semantics.proofs.Chosen.{named_kept}
use Rattle.abstract_semantics.proofs.Termed.{KeysAreFine, value_kept, values_kept}
use Rattle.analysis_transfer_laws.proofs.Logs.{IsLogged, behind_logged, bind_logged, branch_logged, decided_logged, each_append}

-- what is read of a map that keeps P, at a key of its type, has the property
abbrev pub ReadsAre : {W N C : Type 0} → Algebra W N C → C → Environment → (Abs W N → Type 0) → (Seen → Type 0) → Type 0
ReadsAre {W} {N} B c env P U =
    (m : ℕ) (x : Map W N) (ks : Keys) → IsBelow (key_count env (key_type env m)) ks → P (map m x) → Each U (B.notes.reads m (named_key ks) (access_of B c x ks).note)

module _ {W N C : Type 0} (B : Algebra W N C) (laws : Laws W N C B) (c : C) (cap : ℕ) (spec : Spec) (a : ℕ) (P : Abs W N → Type 0) (inv : Invariant B c cap (environment_of spec) a P)
    (room : HasRoom B cap) (formed : IsWellFormed (environment_of spec)) (keys_fine : KeysAreFine (environment_of spec)) (U : Seen → Type 0) (reads : ReadsAre B c (environment_of spec) P U) where
  accessed_logged : (m : ℕ) (x key : Abs W N) (l : List Seen) → m < length (environment_of spec).maps → IsOf B c cap (environment_of spec) P (MapOf m) x → IsOf B c cap (environment_of spec) P (key_type (environment_of spec) m) key
      → Each U l → IsLogged U (accessed B c m x key l)
  accessed_logged m x key l lt h q k =
      let there = map_there B c cap (environment_of spec) P m x h in
      subst (λ z. IsLogged U (accessed B c m z key l)) (sym there.is) (at there.map_is (subst P there.is h.also) (m == m) (keys_of B c there.map_is key) refl)
    where
      at : (z : Map W N) → P (map m z) → (b : Bool) (o : Option Keys) → keys_of B c z key ≡ o → IsLogged U (cond b (read_of B c m z l o) (gives None l))
      at z p true None e = k
      at z p true (Some ks) e = each_append U l _ k (reads m z ks (key_below B laws c cap (environment_of spec) P (key_type (environment_of spec) m) z key ks (keys_fine m lt).0 q e) p)
      at z p false o e = k

  module _ (calls : ℕ → List (Abs W N) → Answer (Abs W N)) (rank : ℕ → ℕ) (g : ℕ)
      (below : (f : ℕ) (s : Signature) (xs : List (Abs W N)) → rank (group_of spec f) < rank g → slice_get (environment_of spec).funs f ≡ Some s → AreOf B c cap (environment_of spec) P s.params xs
      → IsKept (Unit {0}) (IsOf B c cap (environment_of spec) P s.result_type) [] (calls f xs))
      (logged_below : (f : ℕ) (s : Signature) (xs : List (Abs W N)) → rank (group_of spec f) < rank g → slice_get (environment_of spec).funs f ≡ Some s → AreOf B c cap (environment_of spec) P s.params xs → IsLogged U (calls f xs)) where
    abbrev IsIn : Ty → Abs W N → Type 0
    IsIn = IsOf B c cap (environment_of spec) P

    abbrev AreIn : List Ty → List (Abs W N) → Type 0
    AreIn = AreOf B c cap (environment_of spec) P

    abbrev pub valued : (x : Core) (vars : List Ty) (env : List (Abs W N)) (s : Ty) (l : List Seen) → AreOf B c cap (environment_of spec) P vars env → HasCoreType (environment_of spec) vars x s → CallsBelow (group_of spec) rank g x
        → IsKept (Unit {0}) (IsOf B c cap (environment_of spec) P s) l (value_of B c cap spec a calls env x l)
    valued = value_kept B laws c cap spec a P inv room formed keys_fine (Unit {0}) calls rank g below

    abbrev pub all_valued : (ts : Cores) (vars : List Ty) (env : List (Abs W N)) (tys : List Ty) (l : List Seen) → AreOf B c cap (environment_of spec) P vars env → HaveCoreTypes (environment_of spec) vars ts tys → AllCallBelow (group_of spec) rank g ts
        → IsKept (Unit {0}) (AreOf B c cap (environment_of spec) P tys) l (values_of B c cap spec a calls env ts l)
    all_valued = values_kept B laws c cap spec a P inv room formed keys_fine (Unit {0}) calls rank g below

    arm_given : (o : Option (List (Abs W N))) (arm : List (Abs W N) → Evaluation (Abs W N)) (more : List Ty) (l : List Seen) → IfSome o (AreIn more) → Each U l
        → ((vs : List (Abs W N)) → AreIn more vs → IsLogged U (arm vs l)) → IsLogged U (arm_on arm o l)
    arm_given None arm more l h k go = k
    arm_given (Some vs) arm more l h k go = go vs h

    mutual
      pub value_logged : (x : Core) (vars : List Ty) (env : List (Abs W N)) (ty : Ty) (l : List Seen) → AreIn vars env → HasCoreType (environment_of spec) vars x ty → CallsBelow (group_of spec) rank g x → Each U l
          → IsLogged U (value_of B c cap spec a calls env x l)
      value_logged (t.var n) vars env ty l h ok b k = k
      value_logged (t.flag q) vars env ty l h ok b k = k
      value_logged (t.word w v) vars env ty l h ok b k = k
      value_logged (t.un op w x) vars env ty l h ok b k =
          bind_logged U (IsIn (Word w)) l (value_of B c cap spec a calls env x l) _ (valued x vars env (Word w) l h ok.0 b) (value_logged x vars env (Word w) l h ok.0 b k) (λ p l hp k. k)
      value_logged (t.bin op w x y) vars env ty l h ok b k =
          bind_logged U (IsIn (Word w)) l (value_of B c cap spec a calls env x l) _ (valued x vars env (Word w) l h ok.0 b.0) (value_logged x vars env (Word w) l h ok.0 b.0 k) (λ p l hp k.
          bind_logged U (IsIn (Word w)) l (value_of B c cap spec a calls env y l) _ (valued y vars env (Word w) l h ok.1 b.1) (value_logged y vars env (Word w) l h ok.1 b.1 k) (λ q l hq k. k))
      value_logged (t.test q w x y) vars env ty l h ok b k =
          bind_logged U (IsIn (Word w)) l (value_of B c cap spec a calls env x l) _ (valued x vars env (Word w) l h ok.0 b.0) (value_logged x vars env (Word w) l h ok.0 b.0 k) (λ p l hp k.
          bind_logged U (IsIn (Word w)) l (value_of B c cap spec a calls env y l) _ (valued y vars env (Word w) l h ok.1 b.1) (value_logged y vars env (Word w) l h ok.1 b.1 k) (λ q l hq k. k))
      value_logged (t.cast kind from to x) vars env ty l h ok b k =
          bind_logged U (IsIn (Word from)) l (value_of B c cap spec a calls env x l) _ (valued x vars env (Word from) l h ok.0 b) (value_logged x vars env (Word from) l h ok.0 b k) (λ p l hp k. k)
      value_logged (t.let_in x y) vars env ty l h ok b k =
          bind_logged U (IsIn ok.0) l (value_of B c cap spec a calls env x l) _ (valued x vars env ok.0 l h ok.1 b.0) (value_logged x vars env ok.0 l h ok.1 b.0 k) (λ p l hp k.
          value_logged y (vars ++ ok.0 ∷ []) (env ++ p ∷ []) ty l (are_append B c cap (environment_of spec) P vars (ok.0 ∷ []) env (p ∷ []) h (hp, tt)) ok.2 b.1 k)
      value_logged (t.if_else q x y) vars env ty l h ok b k =
          bind_logged U (IsIn Flag) l (value_of B c cap spec a calls env q l) _ (valued q vars env Flag l h ok.0 b.0) (value_logged q vars env Flag l h ok.0 b.0 k) (λ p l hp k.
          branch_logged U (join_of B c cap) (flag_there (Some p)) _ _ (λ l k. value_logged x vars env ty l h ok.1 b.1 k) (λ l k. value_logged y vars env ty l h ok.2 b.2 k) l k)
      value_logged (t.choose x by arms) vars env ty l h ok b k =
          bind_logged U (IsIn ok.0) l (value_of B c cap spec a calls env x l) _ (valued x vars env ok.0 l h ok.1 b.0) (value_logged x vars env ok.0 l h ok.1 b.0 k) (λ p l hp k.
          decided_logged U (join_of B c cap) B c (environment_of spec) (λ r vs m. arm_of B c cap spec a calls env arms r vs m) p ok.0
          (λ r binds. (more : List Ty) × (types_named (environment_of spec) ok.0 binds ≡ Some more) × ArmHasType (environment_of spec) vars arms r more ty)
          (λ r binds q l k. arm_given (abs_named p binds) (λ vs m. arm_of B c cap spec a calls env arms r vs m) q.0 l (named_kept B c cap (environment_of spec) a P inv p ok.0 binds q.0 hp q.1) k
          (λ vs hvs. arm_logged arms r vars env q.0 vs ty l h hvs q.2 b.1 k)) by ok.2 l k)
      value_logged (t.make d n args) vars env ty l h ok b k =
          bind_logged U (AreIn (fields_at (case_at (environment_of spec) (DataTy d) n))) l (values_of B c cap spec a calls env args l) _ (all_valued args vars env _ l h ok.1 b)
          (values_logged args vars env (fields_at (case_at (environment_of spec) (DataTy d) n)) l h ok.1 b k) (λ ps l hps k. k)
      value_logged (t.call f args) vars env ty l h ok b k =
          bind_logged U (AreIn ok.0.params) l (values_of B c cap spec a calls env args l) _ (all_valued args vars env ok.0.params l h ok.2 b.1) (values_logged args vars env ok.0.params l h ok.2 b.1 k) (λ ps l hps k.
          behind_logged U l (calls f ps) k (logged_below f ok.0 ps b.0 ok.1 hps))
      value_logged (t.get m x q) vars env ty l h ok b k =
          bind_logged U (IsIn (MapOf m)) l (value_of B c cap spec a calls env x l) _ (valued x vars env (MapOf m) l h ok.1 b.0) (value_logged x vars env (MapOf m) l h ok.1 b.0 k) (λ p l hp k.
          bind_logged U (IsIn (key_type (environment_of spec) m)) l (value_of B c cap spec a calls env q l) _ (valued q vars env (key_type (environment_of spec) m) l h ok.2 b.1)
          (value_logged q vars env (key_type (environment_of spec) m) l h ok.2 b.1 k) (λ q l hq k. accessed_logged m p q l ok.0 hp hq k))
      value_logged (t.put m x q v) vars env ty l h ok b k =
          bind_logged U (IsIn (MapOf m)) l (value_of B c cap spec a calls env x l) _ (valued x vars env (MapOf m) l h ok.1 b.0) (value_logged x vars env (MapOf m) l h ok.1 b.0 k) (λ p l hp k.
          bind_logged U (IsIn (key_type (environment_of spec) m)) l (value_of B c cap spec a calls env q l) _ (valued q vars env (key_type (environment_of spec) m) l h ok.2 b.1)
          (value_logged q vars env (key_type (environment_of spec) m) l h ok.2 b.1 k) (λ q l hq k.
          bind_logged U (IsIn (value_type (environment_of spec) m)) l (value_of B c cap spec a calls env v l) _ (valued v vars env (value_type (environment_of spec) m) l h ok.3 b.2)
          (value_logged v vars env (value_type (environment_of spec) m) l h ok.3 b.2 k) (λ r l hr k. k)))

      pub values_logged : (ts : Cores) (vars : List Ty) (env : List (Abs W N)) (tys : List Ty) (l : List Seen) → AreIn vars env → HaveCoreTypes (environment_of spec) vars ts tys → AllCallBelow (group_of spec) rank g ts → Each U l
          → IsLogged U (values_of B c cap spec a calls env ts l)
      values_logged t.no_core vars env tys l h ok b k = k
      values_logged (t.core_then x rest) vars env [] l h ok b k = absurd ok
      values_logged (t.core_then x rest) vars env (ty ∷ tys) l h ok b k =
          bind_logged U (IsIn ty) l (value_of B c cap spec a calls env x l) _ (valued x vars env ty l h ok.0 b.0) (value_logged x vars env ty l h ok.0 b.0 k) (λ p l hp k.
          bind_logged U (AreIn tys) l (values_of B c cap spec a calls env rest l) _ (all_valued rest vars env tys l h ok.1 b.1) (values_logged rest vars env tys l h ok.1 b.1 k) (λ ps l hps k. k))

      pub arm_logged : (ts : Cores) (r : ℕ) (vars : List Ty) (env : List (Abs W N)) (more : List Ty) (vs : List (Abs W N)) (ty : Ty) (l : List Seen) → AreIn vars env → AreIn more vs
          → ArmHasType (environment_of spec) vars ts r more ty → AllCallBelow (group_of spec) rank g ts → Each U l → IsLogged U (arm_of B c cap spec a calls env ts r vs l)
      arm_logged t.no_core r vars env more vs ty l h m ok b k = absurd ok
      arm_logged (t.core_then x rest) zero vars env more vs ty l h m ok b k = value_logged x (vars ++ more) (env ++ vs) ty l (are_append B c cap (environment_of spec) P vars more env vs h m) ok b.0 k
      arm_logged (t.core_then x rest) (suc r) vars env more vs ty l h m ok b k = arm_logged rest r vars env more vs ty l h m ok b.1 k
