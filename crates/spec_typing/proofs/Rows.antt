-- The premises of a match that was checked.
use Rattle.std.proofs.Common.{◌≡◌, ℕ, zero, suc, ◌<◌, true, Option, Some, None, List, [], ◌∷◌, ◌++◌, length, get_or, map, refl, arith}
use Rattle.std.proofs.lemmas.Bool.Decides.{nat_tests}
use Rattle.std.proofs.lemmas.List.{length-map}
use Rattle.std.specs.Prelude.{All}
use Rattle.syntax_parser.specs.Tree as e
use Rattle.syntax_parser.specs.Tree.{Term as Expr, Arms as ExprArms}
use Rattle.spec_match_compiler.specs.declared.pattern.Pattern.{Pattern}
use Rattle.spec_match_compiler.specs.declared.shape.Shape.{Shape}
use Rattle.spec_match_compiler.specs.Patterns as plain
use Rattle.spec_match_compiler.specs.Shapes.{Types, Suits, IsShape}
use Rattle.spec_match_compiler.specs.Views.{pat}
use Rattle.spec_ir.specs.declared.ty.Ty.{Ty}
use Rattle.spec_ir.specs.declared.ty.Ty.TheVariants.{Bool as Flag, Word, Data as DataTy, Map as MapOf}
use Rattle.spec_ir.specs.Answers.{◌then◌}
use Rattle.spec_ir.specs.Environment.{Environment, Scope, or_else, shape_of, shapes_of}
use Rattle.spec_ir.specs.WellFormed.{is_type}
use Rattle.spec_ir.proofs.Checks.{then_left, then_right, width_is}
use Rattle.spec_patterns.specs.Patterns.{pattern_fault, pattern_of, variables}
use Rattle.spec_patterns.proofs.Suits.{suits}
use Rattle.spec_typing.specs.Parts.{wanted_if}
use Rattle.spec_typing.specs.Terms.{arms_fault, part, rows_of, type_of}

pub shape_fits : (env : Environment) (ty : Ty) → is_type env ty ≡ true → IsShape (shapes_of env) (shape_of ty)
shape_fits env Flag h = tt
shape_fits env (Word w) h = width_is w h
shape_fits env (DataTy t) h =
    grind (arith, nat_tests, length-map)
shape_fits env (MapOf m) h = tt

abbrev pub AllSuit : Types → Shape → List plain.Pattern → Type 0
AllSuit types s [] = Unit {0}
AllSuit types s (p ∷ ps) = Suits types s p × AllSuit types s ps

-- the typed patterns of arms without faults
pub rows_suit : (env : Environment) (scope : Scope) (ty : Ty) (arms : ExprArms) (want : Option Ty) → arms_fault env scope ty want arms ≡ None → AllSuit (shapes_of env) (shape_of ty) (rows_of env scope ty arms)
rows_suit env scope ty e.no_arm want h = tt
rows_suit env scope ty (e.arm p body span rest) want h =
    let own = pattern_fault env ty p then wanted_if env want (part env (scope ++ variables env ty p) body) in (
      suits env scope ty p (then_left (pattern_fault env ty p) _ (then_left own _ h)),
      rows_suit env scope ty rest (or_else want (type_of env (scope ++ variables env ty p) body)) (then_right own _ h),
    )

pub suit_all : (types : Types) (s : Shape) (ps : List Pattern) → AllSuit types s (map pat ps) → All (λ p. Suits types s (pat p)) ps
suit_all types s [] h = λ k d l. absurd (omega arith)
suit_all types s (p ∷ ps) h = λ k d l. at (suit_all types s ps h.1) k d l
  where
    at : All (λ p. Suits types s (pat p)) ps → (k : ℕ) (d : Pattern) → k < length (p ∷ ps) → Suits types s (pat (get_or (p ∷ ps) k d))
    at later zero d l = h.0
    at later (suc k) d l = later k d (omega arith)
