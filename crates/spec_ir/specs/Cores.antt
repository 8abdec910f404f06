-- The core term of a typed term.
use Rattle.std.specs.Prelude.{ℕ, Option, Some, None, List, [], ◌∷◌, ◌++◌, slice_get, unwrap_or}
use Rattle.spec_match_compiler.specs.Patterns.{Pattern, Patterns, any, bind, flag_is, word_is, case_is, no_pat, pat_then}
use Rattle.spec_match_compiler.specs.Decisions.{Decision, row}
use Rattle.spec_ir.specs.declared.ty.Ty.{Ty}
use Rattle.spec_ir.specs.declared.ty.Ty.TheVariants.{Bool as Flag, Word, Data as DataTy, Map as MapOf}
use Rattle.spec_ir.specs.Environment.{Environment, Signature, shape_of, shapes_of, value_type}
use Rattle.spec_ir.specs.Texts.{case_at, fields_at}
use Rattle.spec_ir.specs.Terms as s
use Rattle.spec_ir.specs.Terms.{Term, Terms, Arms, patterns_of}
use Rattle.spec_ir.specs.CoreTerms as c
use Rattle.spec_ir.specs.CoreTerms.{Core, Cores}
use Rattle.spec_match_compiler.specs.Answers.{MatchAnswer, decision, not_exhaustive, useless, match_answer}

-- the tree of a match without a fault
abbrev pub tree_of : MatchAnswer → Decision
tree_of (decision t) = t
tree_of _ = row 0 []

abbrev pub result_of : Option Signature → Ty
result_of None = Flag
result_of (Some s) = s.result_type

module _ (env : Environment) where
  abbrev mutual
    -- the types of the variables of a pattern, where values have a type
    pub variable_types : Ty → Pattern → List Ty
    variable_types ty (bind n) = ty ∷ []
    variable_types ty (case_is k ps) = all_variable_types (fields_at (case_at env ty k)) ps
    variable_types ty _ = []

    pub all_variable_types : List Ty → Patterns → List Ty
    all_variable_types (t ∷ ts) (pat_then p ps) = variable_types t p ++ all_variable_types ts ps
    all_variable_types _ _ = []

  abbrev mutual
    -- the type of a typed term, where variables have these, by their places
    pub type_in : List Ty → Term → Ty
    type_in vars (s.var n) = unwrap_or (slice_get vars n) Flag
    type_in vars (s.flag b) = Flag
    type_in vars (s.word w v) = Word w
    type_in vars (s.un op w x) = Word w
    type_in vars (s.bin op w x y) = Word w
    type_in vars (s.test k w x y) = Flag
    type_in vars (s.cast kind from to x) = Word to
    type_in vars (s.let_in x body) = type_in (vars ++ type_in vars x ∷ []) body
    type_in vars (s.if_else b x y) = type_in vars x
    type_in vars (s.match_on x arms) = first_arm_type vars (type_in vars x) arms
    type_in vars (s.make d k args) = DataTy d
    type_in vars (s.call f args) = result_of (slice_get env.funs f)
    type_in vars (s.get m x k) = value_type env m
    type_in vars (s.put m x k v) = MapOf m

    pub first_arm_type : List Ty → Ty → Arms → Ty
    first_arm_type vars from s.no_arm = Flag
    first_arm_type vars from (s.arm_then p t rest) = type_in (vars ++ variable_types from p) t

  abbrev mutual
    -- each match is the decision for its patterns, the arms stay in their order
    pub core_of : List Ty → Term → Core
    core_of vars (s.var n) = c.var n
    core_of vars (s.flag b) = c.flag b
    core_of vars (s.word w v) = c.word w v
    core_of vars (s.un op w x) = c.un op w (core_of vars x)
    core_of vars (s.bin op w x y) = c.bin op w (core_of vars x) (core_of vars y)
    core_of vars (s.test k w x y) = c.test k w (core_of vars x) (core_of vars y)
    core_of vars (s.cast kind from to x) = c.cast kind from to (core_of vars x)
    core_of vars (s.let_in x body) = c.let_in (core_of vars x) (core_of (vars ++ type_in vars x ∷ []) body)
    core_of vars (s.if_else b x y) = c.if_else (core_of vars b) (core_of vars x) (core_of vars y)
    core_of vars (s.match_on x arms) =
        c.choose (core_of vars x) (tree_of (match_answer (shapes_of env) (shape_of (type_in vars x)) (patterns_of arms))) (arms_of vars (type_in vars x) arms)
    core_of vars (s.make d k args) = c.make d k (cores_of vars args)
    core_of vars (s.call f args) = c.call f (cores_of vars args)
    core_of vars (s.get m x k) = c.get m (core_of vars x) (core_of vars k)
    core_of vars (s.put m x k v) = c.put m (core_of vars x) (core_of vars k) (core_of vars v)

    pub cores_of : List Ty → Terms → Cores
    cores_of vars s.no_term = c.no_core
    cores_of vars (s.term_then t ts) = c.core_then (core_of vars t) (cores_of vars ts)

    pub arms_of : List Ty → Ty → Arms → Cores
    arms_of vars from s.no_arm = c.no_core
    arms_of vars from (s.arm_then p t rest) = c.core_then (core_of (vars ++ variable_types from p) t) (arms_of vars from rest)
