-- Laws of patterns.
use Rattle.std.specs.Prelude.{◌≡◌, true, None}
use Rattle.syntax_parser.specs.Tree.{Pattern}
use Rattle.spec_match_compiler.specs.Shapes.{Suits}
use Rattle.spec_ir.specs.declared.ty.Ty.{Ty}
use Rattle.spec_ir.specs.Environment.{Environment, Scope, shape_of, shapes_of}
use Rattle.spec_ir.specs.WellFormed.{IsWellFormed, is_scope, is_type}
use Rattle.spec_patterns.specs.Patterns.{pattern_fault, pattern_of, variables}

-- A pattern without a fault may stand where values have the type: the premise of a match.
abbrev pub PatternsSuit : Type 0
PatternsSuit = (env : Environment) (scope : Scope) (ty : Ty) (p : Pattern) → pattern_fault env ty p ≡ None → Suits (shapes_of env) (shape_of ty) (pattern_of env scope ty p)

-- The variables of a pattern have types of the environment, where what it is matched with has one.
abbrev pub VariablesHaveTypes : Type 0
VariablesHaveTypes = (env : Environment) (ty : Ty) (p : Pattern) → IsWellFormed env → is_type env ty ≡ true → is_scope env (variables env ty p) ≡ true
