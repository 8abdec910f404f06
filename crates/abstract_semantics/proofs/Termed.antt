-- Terms give values of their types.
use Rattle.std.proofs.Common.{◌≡◌, ℕ, zero, suc, ◌<◌, ◌≤◌, ◌^◌, true, List, [], ◌∷◌, ◌++◌, length, Option, Some, None, slice_get, sym, subst}
use Rattle.std.specs.Prelude.{IfSome}
use Rattle.base_trait.specs.Algebra.{Algebra}
use Rattle.base_trait.specs.Laws.{Laws}
use Rattle.base_trait.specs.Uses.{Seen}
use Rattle.abstract_map_laws.specs.Laws.{HasRoom}
use Rattle.spec_ir.specs.declared.ty.Ty.{Ty}
use Rattle.spec_ir.specs.declared.ty.Ty.TheVariants.{Bool as Flag, Word, Data as DataTy, Map as MapOf}
use Rattle.spec_ir.specs.CoreTerms as t
use Rattle.spec_ir.specs.CoreTerms.{Core, Cores}
use Rattle.spec_ir.specs.Environment.{Environment, Signature, key_type, value_type}
use Rattle.spec_ir.specs.Specification.{Spec}
use Rattle.spec_ir.specs.Texts.{case_at, fields_at}
use Rattle.spec_ir.specs.WellFormed.{IsWellFormed}
use Rattle.semantics_values.specs.Types.{environment_of, key_count}
use Rattle.semantics.specs.Direct.{group_of}
use Rattle.semantics.specs.Steps.{is_word}
use Rattle.semantics_laws.specs.Accepted.{is_key_type}
use Rattle.semantics_laws.specs.Places.{types_named}
use Rattle.semantics_laws.specs.CoreTypes.{HasCoreType, HaveCoreTypes, ArmHasType}
use Rattle.semantics_laws.specs.CoreCalls.{CallsBelow, AllCallBelow}
use Rattle.abstract_value_laws.specs.Abs.{Abs}
use Rattle.abstract_value_laws.specs.Calls.{join_of}
use Rattle.abstract_value_laws.proofs.Joining.{join_fits, join_shapes}
use Rattle.abstract_value_laws.specs.OfValues.{only}
use Rattle.abstract_value_laws.specs.TypeShapes.{shape_of}
use Rattle.abstract_value_laws.proofs.Typing.{types_are_shapes}
use Rattle.support_tail_fixpoint.specs.Groups.{EachIs, merge_each}
use Rattle.support_tail_fixpoint.proofs.Groups.{merge_each_kept}
use Rattle.support_tail_fixpoint.proofs.Somes.{some_kept}
use Rattle.support_tail_fixpoint.specs.Answer.{Yield}
use Rattle.abstract_semantics.specs.Answers.{Answer, Evaluation}
use Rattle.abstract_semantics.specs.Choices.{abs_named, arm_on, flag_there}
use Rattle.abstract_semantics.specs.Terms.{GroupArgs, arm_of, join_yields, merge_all, params_of, value_of, values_of}
use Rattle.abstract_semantics.proofs.Kept.{IsKept, behind_kept, bind_kept, branch_kept, guarded, keeps_itself, nothing}
use Rattle.abstract_semantics.proofs.Typed.{IsOf, AreOf, are_append, looked_up, type_is}
use Rattle.abstract_semantics.proofs.Stepped.{Invariant, accessed_kept, binary_kept, compared_kept, flag_of, made_kept, resized_kept, unary_kept, updated_kept, word_of}
use Rattle.abstract_semantics.proofs.Chosen.{decided_kept, named_kept}

-- What the types of maps are: keys are of a type of keys, and few.
abbrev pub KeysAreFine : Environment → Type 0
KeysAreFine env = (m : ℕ) → m < length env.maps → (is_key_type env (key_type env m) ≡ true) × (key_count env (key_type env m) ≤ 2 ^ 32)

module _ {W N C : Type 0} (B : Algebra W N C) (laws : Laws W N C B) (c : C) (cap : ℕ) (spec : Spec) (a : ℕ) (P : Abs W N → Type 0) where
  -- a list of arguments of function f, which is one of group g
  pub record ArgsOf (g f : ℕ) (xs : List (Abs W N)) : Type 0 where
    pub there : f < length spec.funs
    pub of_group : group_of spec f ≡ g
    pub are : AreOf B c cap (environment_of spec) P (params_of spec f) xs

  -- what a turn of group g gives, where this is the type of results
  pub record IsYield (g : ℕ) (ty : Ty) (y : Yield (GroupArgs W N) (Abs W N)) : Type 0 where
    pub out : IfSome y.out (IsOf B c cap (environment_of spec) P ty)
    pub next : IfSome y.next (EachIs (ArgsOf g))

module _ {W N C : Type 0} (B : Algebra W N C) (laws : Laws W N C B) (c : C) (cap : ℕ) (spec : Spec) (a : ℕ) (P : Abs W N → Type 0) (inv : Invariant B c cap (environment_of spec) a P)
    (room : HasRoom B cap) (formed : IsWellFormed (environment_of spec)) (keys_fine : KeysAreFine (environment_of spec)) where
  pub join_kept : (ty : Ty) (x y : Abs W N) → IsOf B c cap (environment_of spec) P ty x → IsOf B c cap (environment_of spec) P ty y → IsOf B c cap (environment_of spec) P ty (join_of B c cap x y)
  join_kept ty x y h k =
      let is = type_is B c cap (environment_of spec) P ty x h in
      record {
        has = (types_are_shapes B (environment_of spec) ty (join_of B c cap x y) formed is).1
            (join_shapes B laws c cap (shape_of (environment_of spec) ty) x y ((types_are_shapes B (environment_of spec) ty x formed is).0 h.has) ((types_are_shapes B (environment_of spec) ty y formed is).0 k.has));
        fits = join_fits B laws c cap x y room h.fits k.fits;
        also = inv.joins x y h.also k.also;
      }

  pub all_joined : (ts : List Ty) (xs ys : List (Abs W N)) → AreOf B c cap (environment_of spec) P ts xs → AreOf B c cap (environment_of spec) P ts ys → AreOf B c cap (environment_of spec) P ts (merge_all (join_of B c cap) xs ys)
  all_joined [] [] [] h k = tt
  all_joined [] [] (y ∷ ys) h k = absurd k
  all_joined [] (x ∷ xs) ys h k = absurd h
  all_joined (t ∷ ts) [] ys h k = absurd h
  all_joined (t ∷ ts) (x ∷ xs) [] h k = absurd k
  all_joined (t ∷ ts) (x ∷ xs) (y ∷ ys) h k = (join_kept t x y h.0 k.0, all_joined ts xs ys h.1 k.1)

  pub args_joined : (g f : ℕ) (xs ys : List (Abs W N)) → ArgsOf B laws c cap spec a P g f xs → ArgsOf B laws c cap spec a P g f ys → ArgsOf B laws c cap spec a P g f (merge_all (join_of B c cap) xs ys)
  args_joined g f xs ys h k = record { there = h.there; of_group = h.of_group; are = all_joined (params_of spec f) xs ys h.are k.are }

  pub yields_joined : (g : ℕ) (ty : Ty) (y z : Yield (GroupArgs W N) (Abs W N)) → IsYield B laws c cap spec a P g ty y → IsYield B laws c cap spec a P g ty z → IsYield B laws c cap spec a P g ty (join_yields B c cap spec a y z)
  yields_joined g ty y z h k = record {
    out = some_kept (IsOf B c cap (environment_of spec) P ty) (join_of B c cap) (join_kept ty) y.out z.out h.out k.out;
    next = some_kept (EachIs (ArgsOf B laws c cap spec a P g)) (merge_each (merge_all (join_of B c cap)))
        (λ xs ys p q. merge_each_kept (ArgsOf B laws c cap spec a P g) (merge_all (join_of B c cap)) xs ys (args_joined g) p q) y.next z.next h.next k.next;
  }

  -- ---- terms
  module _ (Fine : Type 0) (calls : ℕ → List (Abs W N) → Answer (Abs W N)) (rank : ℕ → ℕ) (g : ℕ)
      (below : (f : ℕ) (s : Signature) (xs : List (Abs W N)) → rank (group_of spec f) < rank g → slice_get (environment_of spec).funs f ≡ Some s → AreOf B c cap (environment_of spec) P s.params xs
      → IsKept Fine (IsOf B c cap (environment_of spec) P s.result_type) [] (calls f xs)) where
    arm_given : (o : Option (List (Abs W N))) (arm : List (Abs W N) → Evaluation (Abs W N)) (ty : Ty) (more : List Ty) (l : List Seen) → IfSome o (AreOf B c cap (environment_of spec) P more)
        → ((vs : List (Abs W N)) → AreOf B c cap (environment_of spec) P more vs → IsKept Fine (IsOf B c cap (environment_of spec) P ty) l (arm vs l)) → IsKept Fine (IsOf B c cap (environment_of spec) P ty) l (arm_on arm o l)
    arm_given None arm ty more l h go = nothing Fine (IsOf B c cap (environment_of spec) P ty) l
    arm_given (Some vs) arm ty more l h go = go vs h

    mutual
      pub value_kept : (x : Core) (vars : List Ty) (env : List (Abs W N)) (ty : Ty) (l : List Seen) → AreOf B c cap (environment_of spec) P vars env → HasCoreType (environment_of spec) vars x ty → CallsBelow (group_of spec) rank g x
          → IsKept Fine (IsOf B c cap (environment_of spec) P ty) l (value_of B c cap spec a calls env x l)
      value_kept (t.var n) vars env ty l h ok b = (looked_up B c cap (environment_of spec) P vars env n ty h ok, keeps_itself l)
      value_kept (t.flag q) vars env ty l h ok b = subst (λ z. IsKept Fine (IsOf B c cap (environment_of spec) P z) l (value_of B c cap spec a calls env (t.flag q) l)) (sym ok)
          (flag_of B laws c cap (environment_of spec) a P inv Fine (only q), keeps_itself l)
      value_kept (t.word w v) vars env ty l h ok b = subst (λ z. IsKept Fine (IsOf B c cap (environment_of spec) P z) l (value_of B c cap spec a calls env (t.word w v) l)) (sym ok.2)
          (guarded Fine (IsOf B c cap (environment_of spec) P (Word w)) (is_word w v) _ l (word_of B laws c cap (environment_of spec) a P inv Fine w (B.words.constant c w v) ok.0 (laws.words.constant_fits c w v ok.0 ok.1)))
      value_kept (t.un op w x) vars env ty l h ok b = subst (λ z. IsKept Fine (IsOf B c cap (environment_of spec) P z) l (value_of B c cap spec a calls env (t.un op w x) l)) (sym ok.1)
          (bind_kept Fine _ _ l (value_of B c cap spec a calls env x l) _ (value_kept x vars env (Word w) l h ok.0 b) (λ p l hp.
          unary_kept B laws c cap (environment_of spec) a P inv Fine op w p l hp))
      value_kept (t.bin op w x y) vars env ty l h ok b = subst (λ z. IsKept Fine (IsOf B c cap (environment_of spec) P z) l (value_of B c cap spec a calls env (t.bin op w x y) l)) (sym ok.2)
          (bind_kept Fine _ _ l (value_of B c cap spec a calls env x l) _ (value_kept x vars env (Word w) l h ok.0 b.0) (λ p l hp.
          bind_kept Fine _ _ l (value_of B c cap spec a calls env y l) _ (value_kept y vars env (Word w) l h ok.1 b.1) (λ q l hq.
          binary_kept B laws c cap (environment_of spec) a P inv Fine op w p q l hp hq)))
      value_kept (t.test k w x y) vars env ty l h ok b = subst (λ z. IsKept Fine (IsOf B c cap (environment_of spec) P z) l (value_of B c cap spec a calls env (t.test k w x y) l)) (sym ok.2)
          (bind_kept Fine _ _ l (value_of B c cap spec a calls env x l) _ (value_kept x vars env (Word w) l h ok.0 b.0) (λ p l hp.
          bind_kept Fine _ _ l (value_of B c cap spec a calls env y l) _ (value_kept y vars env (Word w) l h ok.1 b.1) (λ q l hq.
          compared_kept B laws c cap (environment_of spec) a P inv Fine k w p q l hp hq)))
      value_kept (t.cast kind from to x) vars env ty l h ok b = subst (λ z. IsKept Fine (IsOf B c cap (environment_of spec) P z) l (value_of B c cap spec a calls env (t.cast kind from to x) l)) (sym ok.3)
          (bind_kept Fine _ _ l (value_of B c cap spec a calls env x l) _ (value_kept x vars env (Word from) l h ok.0 b) (λ p l hp.
          resized_kept B laws c cap (environment_of spec) a P inv Fine kind from to p l hp ok.1 ok.2))
      value_kept (t.let_in x y) vars env ty l h ok b =
          bind_kept Fine _ _ l (value_of B c cap spec a calls env x l) _ (value_kept x vars env ok.0 l h ok.1 b.0) (λ p l hp.
          value_kept y (vars ++ ok.0 ∷ []) (env ++ p ∷ []) ty l (are_append B c cap (environment_of spec) P vars (ok.0 ∷ []) env (p ∷ []) h (hp, tt)) ok.2 b.1)
      value_kept (t.if_else k x y) vars env ty l h ok b =
          bind_kept Fine _ _ l (value_of B c cap spec a calls env k l) _ (value_kept k vars env Flag l h ok.0 b.0) (λ p l hp.
          branch_kept Fine (IsOf B c cap (environment_of spec) P ty) (join_of B c cap) (join_kept ty) (flag_there (Some p)) _ _ (λ l. value_kept x vars env ty l h ok.1 b.1) (λ l. value_kept y vars env ty l h ok.2 b.2) l)
      value_kept (t.choose x by arms) vars env ty l h ok b =
          bind_kept Fine _ _ l (value_of B c cap spec a calls env x l) _ (value_kept x vars env ok.0 l h ok.1 b.0) (λ p l hp.
          decided_kept B c cap (environment_of spec) a P inv Fine (IsOf B c cap (environment_of spec) P ty) (join_of B c cap) (join_kept ty) (λ r vs m. arm_of B c cap spec a calls env arms r vs m) p ok.0
          (λ r binds. (more : List Ty) × (types_named (environment_of spec) ok.0 binds ≡ Some more) × ArmHasType (environment_of spec) vars arms r more ty)
          (λ r binds q l. arm_given (abs_named p binds) (λ vs m. arm_of B c cap spec a calls env arms r vs m) ty q.0 l (named_kept B c cap (environment_of spec) a P inv p ok.0 binds q.0 hp q.1)
          (λ vs hvs. arm_kept arms r vars env q.0 vs ty l h hvs q.2 b.1)) by ok.2 l)
      value_kept (t.make d k args) vars env ty l h ok b = subst (λ z. IsKept Fine (IsOf B c cap (environment_of spec) P z) l (value_of B c cap spec a calls env (t.make d k args) l)) (sym ok.2)
          (bind_kept Fine _ _ l (values_of B c cap spec a calls env args l) _ (values_kept args vars env (fields_at (case_at (environment_of spec) (DataTy d) k)) l h ok.1 b) (λ ps l hps.
          made_kept B laws c cap (environment_of spec) a P inv Fine d k ps l ok.0 hps))
      value_kept (t.call f args) vars env ty l h ok b = subst (λ z. IsKept Fine (IsOf B c cap (environment_of spec) P z) l (value_of B c cap spec a calls env (t.call f args) l)) (sym ok.3)
          (bind_kept Fine _ _ l (values_of B c cap spec a calls env args l) _ (values_kept args vars env ok.0.params l h ok.2 b.1) (λ ps l hps.
          behind_kept Fine _ l (calls f ps) (below f ok.0 ps b.0 ok.1 hps)))
      value_kept (t.get m x k) vars env ty l h ok b = subst (λ z. IsKept Fine (IsOf B c cap (environment_of spec) P z) l (value_of B c cap spec a calls env (t.get m x k) l)) (sym ok.3)
          (bind_kept Fine _ _ l (value_of B c cap spec a calls env x l) _ (value_kept x vars env (MapOf m) l h ok.1 b.0) (λ p l hp.
          bind_kept Fine _ _ l (value_of B c cap spec a calls env k l) _ (value_kept k vars env (key_type (environment_of spec) m) l h ok.2 b.1) (λ q l hq.
          accessed_kept B laws c cap (environment_of spec) a P inv Fine m p q l hp)))
      value_kept (t.put m x k v) vars env ty l h ok b = subst (λ z. IsKept Fine (IsOf B c cap (environment_of spec) P z) l (value_of B c cap spec a calls env (t.put m x k v) l)) (sym ok.4)
          (bind_kept Fine _ _ l (value_of B c cap spec a calls env x l) _ (value_kept x vars env (MapOf m) l h ok.1 b.0) (λ p l hp.
          bind_kept Fine _ _ l (value_of B c cap spec a calls env k l) _ (value_kept k vars env (key_type (environment_of spec) m) l h ok.2 b.1) (λ q l hq.
          bind_kept Fine _ _ l (value_of B c cap spec a calls env v l) _ (value_kept v vars env (value_type (environment_of spec) m) l h ok.3 b.2) (λ r l hr.
          updated_kept B laws c cap (environment_of spec) a P inv Fine room m p q r l (keys_fine m ok.0).0 (keys_fine m ok.0).1 hp hq hr))))

      pub values_kept : (ts : Cores) (vars : List Ty) (env : List (Abs W N)) (tys : List Ty) (l : List Seen) → AreOf B c cap (environment_of spec) P vars env → HaveCoreTypes (environment_of spec) vars ts tys → AllCallBelow (group_of spec) rank g ts
          → IsKept Fine (AreOf B c cap (environment_of spec) P tys) l (values_of B c cap spec a calls env ts l)
      values_kept t.no_core vars env [] l h ok b = (tt, keeps_itself l)
      values_kept t.no_core vars env (ty ∷ tys) l h ok b = absurd ok
      values_kept (t.core_then x rest) vars env [] l h ok b = absurd ok
      values_kept (t.core_then x rest) vars env (ty ∷ tys) l h ok b =
          bind_kept Fine _ _ l (value_of B c cap spec a calls env x l) _ (value_kept x vars env ty l h ok.0 b.0) (λ p l hp.
          bind_kept Fine _ _ l (values_of B c cap spec a calls env rest l) _ (values_kept rest vars env tys l h ok.1 b.1) (λ ps l hps. ((hp, hps), keeps_itself l)))

      pub arm_kept : (ts : Cores) (r : ℕ) (vars : List Ty) (env : List (Abs W N)) (more : List Ty) (vs : List (Abs W N)) (ty : Ty) (l : List Seen) → AreOf B c cap (environment_of spec) P vars env → AreOf B c cap (environment_of spec) P more vs
          → ArmHasType (environment_of spec) vars ts r more ty → AllCallBelow (group_of spec) rank g ts → IsKept Fine (IsOf B c cap (environment_of spec) P ty) l (arm_of B c cap spec a calls env ts r vs l)
      arm_kept t.no_core r vars env more vs ty l h k ok b = absurd ok
      arm_kept (t.core_then x rest) zero vars env more vs ty l h k ok b = value_kept x (vars ++ more) (env ++ vs) ty l (are_append B c cap (environment_of spec) P vars more env vs h k) ok b.0
      arm_kept (t.core_then x rest) (suc r) vars env more vs ty l h k ok b = arm_kept rest r vars env more vs ty l h k ok b.1
