-- Core terms of accepted specifications: types, calls, and that they mean what the terms mean.
use Rattle.std.specs.Prelude.{◌≡◌, ℕ, true, Some, List, slice_get}
use Rattle.base_trait.specs.Uses.{Read}
use Rattle.spec_ir.specs.Specification.{Spec, Fun}
use Rattle.semantics_values.specs.Values.{Val, vals}
use Rattle.semantics_values.specs.Types.{environment_of, have_types}
use Rattle.semantics.specs.Direct.{run, group_of}
use Rattle.semantics_laws.specs.Accepted.{IsAccepted}
use Rattle.semantics_laws.specs.CoreTypes.{HasCoreType}
use Rattle.semantics_laws.specs.CoreCalls.{CallsInOrder}
use Rattle.semantics_laws.specs.CoreDirect.{core_run}

-- The core term of a function has the type of the function's result.
abbrev pub CoresHaveTypes : Type 0
CoresHaveTypes = (spec : Spec) (f : ℕ) (fun : Fun) → IsAccepted spec → slice_get spec.funs f ≡ Some fun → HasCoreType (environment_of spec) fun.params fun.core fun.result_type

-- It calls functions of the group in tail position alone, and else functions of groups of lower rank.
abbrev pub CoresCallInOrder : Type 0
CoresCallInOrder = (spec : Spec) (accepted : IsAccepted spec) (f : ℕ) (fun : Fun) → slice_get spec.funs f ≡ Some fun → CallsInOrder (group_of spec) accepted.rank fun.group fun.core

-- A call on arguments of the parameters' types means by core terms what it means by typed terms, under each bound.
abbrev pub CoresMeanTheSame : Type 0
CoresMeanTheSame =
    (spec : Spec) (a d n i : ℕ) (fun : Fun) (args : List Val) (l : List Read)
    → IsAccepted spec → slice_get spec.funs i ≡ Some fun → have_types (environment_of spec) (vals args) fun.params ≡ true
    → core_run spec a d n i args l ≡ run spec a d n i args l
