-- The core term of a term without faults, with each match as the decision for its patterns.
use Rattle.std.specs.Prelude.{◌++◌}
use Rattle.syntax_parser.specs.Tree as e
use Rattle.syntax_parser.specs.Tree.{Term as Expr, Terms as Exprs, Arms as ExprArms}
use Rattle.spec_match_compiler.specs.Answers.{match_answer}
use Rattle.spec_ir.specs.declared.ty.Ty.{Ty}
use Rattle.spec_ir.specs.Environment.{Environment, Scope, variable_named, constructor_named, function_named, shape_of, shapes_of}
use Rattle.spec_ir.specs.CoreTerms as c
use Rattle.spec_ir.specs.CoreTerms.{Core, Cores}
use Rattle.spec_ir.specs.Cores.{tree_of}
use Rattle.spec_patterns.specs.Patterns.{variables, case_number}
use Rattle.spec_term_forms.specs.Forms.{operator_core, prefix_core, width_of}
use Rattle.spec_term_forms.specs.Operators.{operator_of, keyword_operator, cast_of}
use Rattle.spec_typing.specs.Terms.{type_of, rows_of, enter, type_or, map_of, place_of, number_of, datatype_of}

module _ (env : Environment) where
  abbrev mutual
    pub core_in : Scope → Expr → Core
    core_in scope (e.let_in name x body span) = c.let_in (core_in scope x) (core_in (enter scope name.text (type_of env scope x)) body)
    core_in scope (e.if_else b x y span) = c.if_else (core_in scope b) (core_in scope x) (core_in scope y)
    core_in scope (e.binary op x y span) = operator_core (operator_of op) (width_of (type_of env scope x)) (core_in scope x) (core_in scope y)
    core_in scope (e.prefix op x span) = prefix_core op (width_of (type_of env scope x)) (core_in scope x)
    core_in scope (e.get x key span) = c.get (map_of (type_of env scope x)) (core_in scope x) (core_in scope key)
    core_in scope (e.put x key v span) = c.put (map_of (type_of env scope x)) (core_in scope x) (core_in scope key) (core_in scope v)
    core_in scope (e.Term.word v w span) = c.word w.v v.v
    core_in scope (e.Term.flag b span) = c.flag b
    core_in scope (e.var name) = c.var (place_of (variable_named scope name.text))
    core_in scope (e.call name args span) = c.call (number_of (function_named env name.text)) (cores_in scope args)
    core_in scope (e.Term.make name args span) = c.make (datatype_of (constructor_named env name.text)) (case_number (constructor_named env name.text)) (cores_in scope args)
    core_in scope (e.operation op x y span) = operator_core (keyword_operator op) (width_of (type_of env scope x)) (core_in scope x) (core_in scope y)
    core_in scope (e.cast op x to span) = c.cast (cast_of op) (width_of (type_of env scope x)) to.v (core_in scope x)
    core_in scope (e.match_on x arms span) =
        c.choose (core_in scope x)
        (tree_of (match_answer (shapes_of env) (shape_of (type_or (type_of env scope x))) (rows_of env scope (type_or (type_of env scope x)) arms)))
        (arm_cores scope (type_or (type_of env scope x)) arms)
    core_in scope (e.paren x span) = core_in scope x

    pub cores_in : Scope → Exprs → Cores
    cores_in scope e.Terms.none = c.no_core
    cores_in scope (e.Terms.more t ts) = c.core_then (core_in scope t) (cores_in scope ts)

    -- of arms, where values have a type
    pub arm_cores : Scope → Ty → ExprArms → Cores
    arm_cores scope ty e.no_arm = c.no_core
    arm_cores scope ty (e.arm p body span rest) = c.core_then (core_in (scope ++ variables env ty p) body) (arm_cores scope ty rest)
