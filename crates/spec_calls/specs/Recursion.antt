-- The fifth pass: functions that may not call as they do.
use Rattle.std.specs.Prelude.{◌≡◌, ℕ, ◌<◌, Some, List, slice_get}
use Rattle.syntax_parser.specs.declared.tree.Name.{Name}
use Rattle.spec_ir.specs.declared.spec_error.SpecError.{SpecError}
use Rattle.spec_ir.specs.declared.spec_error.SpecError.TheVariants.{BadRecursion}
use Rattle.spec_ir.specs.Terms.{Term}
use Rattle.spec_calls.specs.Groups.{CallsGroupInside}

-- The first function that calls one of its own group outside tail position is at fault, at its name (T7).
pub record IsRecursionFault (names : List Name) (bodies : List Term) (e : SpecError) : Type 0 where
  pub fun : ℕ
  pub name : Name
  pub is : slice_get names fun ≡ Some name
  pub bad : CallsGroupInside bodies fun
  pub first : (g : ℕ) → g < fun → ¬ CallsGroupInside bodies g
  pub says : e ≡ BadRecursion name.span name.text

-- All calls within a group stand in tail position.
abbrev pub NoRecursionFault : List Term → Type 0
NoRecursionFault bodies = (f : ℕ) → ¬ CallsGroupInside bodies f
