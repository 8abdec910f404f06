-- Terms that leave nothing open: what they name or match has one type, each constructor that they make is there, and each
-- match is decided for each value.
use Rattle.std.specs.Prelude.{◌≡◌, ⊤, true, Some, List, ◌∷◌, [], ◌++◌, is_some}
use Rattle.spec_match_compiler.specs.Picks.{Choice, numbered, first_match, picks}
use Rattle.spec_match_compiler.specs.Decisions.{Decision}
use Rattle.spec_match_compiler.specs.Answers.{match_answer}
use Rattle.spec_ir.specs.declared.ty.Ty.{Ty}
use Rattle.spec_ir.specs.declared.ty.Ty.TheVariants.{Data as DataTy}
use Rattle.spec_ir.specs.Environment.{Environment, shape_of, shapes_of}
use Rattle.spec_ir.specs.Texts.{case_at}
use Rattle.spec_ir.specs.Terms.{Term, Terms, Arms, var, flag, word, un, bin, test, cast, let_in, if_else, match_on, make, call, get, put, no_term, term_then, no_arm, arm_then, patterns_of}
use Rattle.spec_ir.specs.TermTypes.{HasType}
use Rattle.spec_ir.specs.Cores.{tree_of, type_in, variable_types}
use Rattle.semantics_values.specs.Values.{Val}
use Rattle.semantics_values.specs.Types.{has_type}
use Rattle.semantics.specs.Steps.{shown}

module _ (env : Environment) where
  -- A term has no other type than the one that is computed.
  abbrev pub HasOneType : List Ty → Term → Type 0
  HasOneType vars x = (t : Ty) → HasType env vars x t → type_in env vars x ≡ t

  -- the decision for the patterns of arms, where values have a type
  abbrev pub decision_of : Ty → Arms → Decision
  decision_of ty arms = tree_of (match_answer (shapes_of env) (shape_of ty) (patterns_of arms))

  -- Each value of a type meets an arm, and the decision picks the first that it meets.
  abbrev pub AreDecided : Ty → Arms → Type 0
  AreDecided ty arms =
      (v : Val) → has_type env v ty ≡ true → (c : Choice) × (first_match (numbered 0 (patterns_of arms)) (shown v) ≡ Some c) × (picks (decision_of ty arms) (shown v) ≡ Some c)

  abbrev mutual
    -- Where variables have these types, by their places, a term leaves nothing open.
    pub IsTotal : List Ty → Term → Type 0
    IsTotal vars (var n) = ⊤
    IsTotal vars (flag b) = ⊤
    IsTotal vars (word w v) = ⊤
    IsTotal vars (un op w x) = IsTotal vars x
    IsTotal vars (bin op w x y) = IsTotal vars x × IsTotal vars y
    IsTotal vars (test c w x y) = IsTotal vars x × IsTotal vars y
    IsTotal vars (cast kind from to x) = IsTotal vars x
    IsTotal vars (let_in x body) = IsTotal vars x × HasOneType vars x × IsTotal (vars ++ type_in env vars x ∷ []) body
    IsTotal vars (if_else c x y) = IsTotal vars c × IsTotal vars x × IsTotal vars y
    IsTotal vars (match_on x arms) = IsTotal vars x × HasOneType vars x × AreDecided (type_in env vars x) arms × AreTotalArms vars (type_in env vars x) arms
    IsTotal vars (make d c args) = (is_some (case_at env (DataTy d) c) ≡ true) × AreTotal vars args
    IsTotal vars (call f args) = AreTotal vars args
    IsTotal vars (get m x k) = IsTotal vars x × IsTotal vars k
    IsTotal vars (put m x k v) = IsTotal vars x × IsTotal vars k × IsTotal vars v

    pub AreTotal : List Ty → Terms → Type 0
    AreTotal vars no_term = ⊤
    AreTotal vars (term_then t ts) = IsTotal vars t × AreTotal vars ts

    pub AreTotalArms : List Ty → Ty → Arms → Type 0
    AreTotalArms vars from no_arm = ⊤
    AreTotalArms vars from (arm_then p t rest) = IsTotal (vars ++ variable_types env from p) t × AreTotalArms vars from rest
