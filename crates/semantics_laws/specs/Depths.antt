-- The direct meaning at other bounds on how deep calls of other groups go.
use Rattle.std.specs.Prelude.{◌≡◌, ℕ, ◌<◌, Some, List, length, slice_get}
use Rattle.base_trait.specs.Uses.{Read}
use Rattle.spec_ir.specs.Specification.{Spec, Fun}
use Rattle.semantics_values.specs.Values.{Val}
use Rattle.semantics.specs.Direct.{run}
use Rattle.semantics_laws.specs.Accepted.{IsAccepted}

-- Of an accepted specification, a call is the same at all bounds on how deep calls of other groups go that are greater than
-- the number of functions. So the bound of the meaning is no bound.
abbrev pub DepthsSettle : Type 0
DepthsSettle =
    (spec : Spec) (a d m n i : ℕ) (fun : Fun) (args : List Val) (l : List Read)
    → IsAccepted spec → slice_get spec.funs i ≡ Some fun → length spec.funs < m → length spec.funs < n → run spec a d m i args l ≡ run spec a d n i args l
