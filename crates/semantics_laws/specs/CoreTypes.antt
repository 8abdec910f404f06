-- Types of core terms.
use Rattle.std.specs.Prelude.{◌≡◌, ⊤, ℕ, zero, suc, ◌^◌, ◌<◌, true, Some, List, [], ◌∷◌, ◌++◌, length, slice_get, is_some}
use Rattle.word_operations.specs.Width.{IsWidth}
use Rattle.spec_match_compiler.specs.Values.{Place}
use Rattle.spec_match_compiler.specs.Decisions.{Decision, Decisions, row, on_case, on_word, on_flag, no_tree, tree_then}
use Rattle.spec_ir.specs.declared.ty.Ty.{Ty}
use Rattle.spec_ir.specs.declared.ty.Ty.TheVariants.{Bool as Flag, Word, Data as DataTy, Map as MapOf}
use Rattle.spec_ir.specs.Environment.{Environment, Case, Signature, key_type, value_type}
use Rattle.spec_ir.specs.Texts.{case_at, cases_of, fields_at}
use Rattle.spec_ir.specs.TermTypes.{CastFits}
use Rattle.spec_ir.specs.CoreTerms.{Core, Cores, var, flag, word, un, bin, test, cast, let_in, if_else, choose, make, call, get, put, no_core, core_then}
use Rattle.semantics_laws.specs.Places.{type_at, types_named}

module _ (env : Environment) where
  module _ (P : ℕ → List (ℕ × Place) → Type 0) (ty : Ty) where
    abbrev mutual
      -- A decision tests values of a type at places that are there, and each row that it picks has what P says.
      pub Decides : Decision → Type 0
      Decides (row r binds) = P r binds
      Decides (on_case at arms) = (d : ℕ) × (type_at env ty at ≡ Some (DataTy d)) × AllDecide arms (cases_of (slice_get env.datas d))
      Decides (on_word at n a b) = (w : ℕ) × (type_at env ty at ≡ Some (Word w)) × (n < 2 ^ w) × Decides a × Decides b
      Decides (on_flag at a b) = (type_at env ty at ≡ Some Flag) × Decides a × Decides b

      -- an arm for each constructor
      pub AllDecide : Decisions → List Case → Type 0
      AllDecide no_tree [] = ⊤
      AllDecide (tree_then t ts) (c ∷ cases) = Decides t × AllDecide ts cases
      AllDecide _ _ = ⊥

  abbrev mutual
    -- A core term has a type, where variables have these, by their places.
    pub HasCoreType : List Ty → Core → Ty → Type 0
    HasCoreType vars (var n) ty = slice_get vars n ≡ Some ty
    HasCoreType vars (flag b) ty = ty ≡ Flag
    HasCoreType vars (word w v) ty = IsWidth w × (v < 2 ^ w) × (ty ≡ Word w)
    HasCoreType vars (un op w x) ty = HasCoreType vars x (Word w) × (ty ≡ Word w)
    HasCoreType vars (bin op w x y) ty = HasCoreType vars x (Word w) × HasCoreType vars y (Word w) × (ty ≡ Word w)
    HasCoreType vars (test c w x y) ty = HasCoreType vars x (Word w) × HasCoreType vars y (Word w) × (ty ≡ Flag)
    HasCoreType vars (cast kind from to x) ty = HasCoreType vars x (Word from) × IsWidth to × CastFits kind from to × (ty ≡ Word to)
    HasCoreType vars (let_in x body) ty = (t : Ty) × HasCoreType vars x t × HasCoreType (vars ++ t ∷ []) body ty
    HasCoreType vars (if_else c x y) ty = HasCoreType vars c Flag × HasCoreType vars x ty × HasCoreType vars y ty
    HasCoreType vars (choose x by arms) ty = (t : Ty) × HasCoreType vars x t × Decides (λ r binds. (more : List Ty) × (types_named env t binds ≡ Some more) × ArmHasType vars arms r more ty) t by
    HasCoreType vars (make d c args) ty = (is_some (case_at env (DataTy d) c) ≡ true) × HaveCoreTypes vars args (fields_at (case_at env (DataTy d) c)) × (ty ≡ DataTy d)
    HasCoreType vars (call f args) ty = (s : Signature) × (slice_get env.funs f ≡ Some s) × HaveCoreTypes vars args s.params × (ty ≡ s.result_type)
    HasCoreType vars (get m x k) ty = (m < length env.maps) × HasCoreType vars x (MapOf m) × HasCoreType vars k (key_type env m) × (ty ≡ value_type env m)
    HasCoreType vars (put m x k v) ty = (m < length env.maps) × HasCoreType vars x (MapOf m) × HasCoreType vars k (key_type env m) × HasCoreType vars v (value_type env m) × (ty ≡ MapOf m)

    pub HaveCoreTypes : List Ty → Cores → List Ty → Type 0
    HaveCoreTypes vars no_core [] = ⊤
    HaveCoreTypes vars (core_then t ts) (ty ∷ tys) = HasCoreType vars t ty × HaveCoreTypes vars ts tys
    HaveCoreTypes vars _ _ = ⊥

    -- Arm number r has a type, where the variables of its row have these.
    pub ArmHasType : List Ty → Cores → ℕ → List Ty → Ty → Type 0
    ArmHasType vars no_core r more ty = ⊥
    ArmHasType vars (core_then t ts) zero more ty = HasCoreType (vars ++ more) t ty
    ArmHasType vars (core_then t ts) (suc r) more ty = ArmHasType vars ts r more ty
