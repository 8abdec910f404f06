-- Calls on values that stand for concrete ones, and what answers them.
use Rattle.std.specs.Prelude.{⊤, ℕ, List}
use Rattle.base_trait.specs.declared.uses.Stamp.{Stamp}
use Rattle.spec_ir.specs.Specification.{Fun, Spec}
use Rattle.semantics_values.specs.Values.{Val}
use Rattle.semantics.specs.Outcomes as o
use Rattle.semantics.specs.Outcomes.{Outcome}
use Rattle.abstract_value_laws.specs.Abs.{Abs}
use Rattle.abstract_value.specs.View.{abs}
use Rattle.concrete_calls.specs.Laws.{AreArgumentsFor, IsResultFor}
use Rattle.concrete_calls.specs.declared.outcome.CallResult.{CallResult}
use Rattle.concrete_calls.specs.declared.outcome.CallResult.TheVariants.{OutOfFuel, Done}

-- A function is there, and the values stand for arguments of its types.
pub record IsCall (spec : Spec) (fun : ℕ) (args : List (Abs ℕ Stamp)) : Type 0 where
  pub function : Fun
  pub values : List Val
  pub are : AreArgumentsFor spec fun function args values

-- An answer is what a meaning comes to: a value that stands for its value, of the function's result type; or that it is deep.
abbrev pub IsMeantBy : Spec → Fun → CallResult → Outcome Val → Type 0
IsMeantBy spec function (Done x) (o.gives v reads) = IsResultFor spec function (abs x) v
IsMeantBy spec function OutOfFuel (o.deep i) = ⊤
IsMeantBy spec function _ _ = ⊥
