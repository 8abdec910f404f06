-- Types of typed terms: the judgement that the layers above rely on.
use Rattle.std.specs.Prelude.{◌≡◌, ℕ, ◌+◌, ◌^◌, ◌<◌, ◌≤◌, Option, Some, None, List, [], ◌∷◌, ◌++◌, length, slice_get}
use Rattle.word_operations.specs.Width.{IsWidth}
use Rattle.spec_match_compiler.specs.Patterns.{Pattern, Patterns, any, bind, flag_is, word_is, case_is, no_pat, pat_then}
use Rattle.spec_ir.specs.declared.ty.Ty.{Ty}
use Rattle.spec_ir.specs.declared.ty.Ty.TheVariants.{Bool as Flag, Word, Data as DataTy, Map as MapOf}
use Rattle.spec_ir.specs.declared.term.CastKind.{CastKind}
use Rattle.spec_ir.specs.Environment.{Environment, Signature, key_type, value_type}
use Rattle.spec_ir.specs.Texts.{case_at, fields_at}
use Rattle.spec_ir.specs.Terms.{Term, Terms, Arms, var, flag, word, un, bin, test, cast, let_in, if_else, match_on, make, call, get, put, no_term, term_then, no_arm, arm_then}

abbrev pub CastFits : CastKind → ℕ → ℕ → Type 0
CastFits CastKind.Cut from to = to ≤ from
CastFits _ from to = from ≤ to

module _ (env : Environment) where
  abbrev mutual
    -- A pattern may stand where values have a type, and its variables, numbered from n on, have these types.
    pub PatternTyped : ℕ → Ty → Pattern → List Ty → Type 0
    PatternTyped n ty any vars = vars ≡ []
    PatternTyped n ty (bind m) vars = (m ≡ n) × (vars ≡ ty ∷ [])
    PatternTyped n Flag (flag_is b) vars = vars ≡ []
    PatternTyped n (Word w) (word_is v) vars = (v < 2 ^ w) × (vars ≡ [])
    PatternTyped n (DataTy t) (case_is c ps) vars = PatternsTyped n (fields_at (case_at env (DataTy t) c)) ps vars
    PatternTyped n _ _ vars = ⊥

    pub PatternsTyped : ℕ → List Ty → Patterns → List Ty → Type 0
    PatternsTyped n [] no_pat vars = vars ≡ []
    PatternsTyped n (t ∷ ts) (pat_then p ps) vars = (here : List Ty) × (later : List Ty) × PatternTyped n t p here × PatternsTyped (n + length here) ts ps later × (vars ≡ here ++ later)
    PatternsTyped n _ _ vars = ⊥

  abbrev mutual
    -- A term has a type, where variables have these, by their places.
    pub HasType : List Ty → Term → Ty → Type 0
    HasType vars (var n) ty = slice_get vars n ≡ Some ty
    HasType vars (flag b) ty = ty ≡ Flag
    HasType vars (word w v) ty = IsWidth w × (v < 2 ^ w) × (ty ≡ Word w)
    HasType vars (un op w x) ty = HasType vars x (Word w) × (ty ≡ Word w)
    HasType vars (bin op w x y) ty = HasType vars x (Word w) × HasType vars y (Word w) × (ty ≡ Word w)
    HasType vars (test c w x y) ty = HasType vars x (Word w) × HasType vars y (Word w) × (ty ≡ Flag)
    HasType vars (cast kind from to x) ty = HasType vars x (Word from) × IsWidth to × CastFits kind from to × (ty ≡ Word to)
    HasType vars (let_in x body) ty = (t : Ty) × HasType vars x t × HasType (vars ++ t ∷ []) body ty
    HasType vars (if_else c x y) ty = HasType vars c Flag × HasType vars x ty × HasType vars y ty
    HasType vars (match_on x arms) ty = (t : Ty) × HasType vars x t × ArmsHaveType vars t arms ty
    HasType vars (make d c args) ty = HaveTypes vars args (fields_at (case_at env (DataTy d) c)) × (ty ≡ DataTy d)
    HasType vars (call f args) ty = (s : Signature) × (slice_get env.funs f ≡ Some s) × HaveTypes vars args s.params × (ty ≡ s.result_type)
    HasType vars (get m x k) ty = (m < length env.maps) × HasType vars x (MapOf m) × HasType vars k (key_type env m) × (ty ≡ value_type env m)
    HasType vars (put m x k v) ty = (m < length env.maps) × HasType vars x (MapOf m) × HasType vars k (key_type env m) × HasType vars v (value_type env m) × (ty ≡ MapOf m)

    pub HaveTypes : List Ty → Terms → List Ty → Type 0
    HaveTypes vars no_term [] = Unit {0}
    HaveTypes vars (term_then t ts) (ty ∷ tys) = HasType vars t ty × HaveTypes vars ts tys
    HaveTypes vars _ _ = ⊥

    pub ArmsHaveType : List Ty → Ty → Arms → Ty → Type 0
    ArmsHaveType vars from no_arm ty = Unit {0}
    ArmsHaveType vars from (arm_then p t rest) ty = (more : List Ty) × PatternTyped (length vars) from p more × HasType (vars ++ more) t ty × ArmsHaveType vars from rest ty
