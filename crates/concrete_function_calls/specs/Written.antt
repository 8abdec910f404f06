-- Calls of functions whose results can be written.
use Rattle.std.specs.Prelude.{◌≡◌, ℕ, true, Some, List, slice_get}
use Rattle.spec_ir.specs.Specification.{Fun, Spec}
use Rattle.semantics_values.specs.Types.{environment_of, have_types}
use Rattle.semantics_values.specs.Values.{Val, vals}
use Rattle.concrete_function_calls.specs.Calls.{is_written}

-- A function is there, its result can be written, and the values have the types of its parameters.
pub record IsWrittenCall (spec : Spec) (fun : ℕ) (args : List Val) : Type 0 where
  pub function : Fun
  pub there : slice_get spec.funs fun ≡ Some function
  pub written : is_written function.result_type ≡ true
  pub typed : have_types (environment_of spec) (vals args) function.params ≡ true
