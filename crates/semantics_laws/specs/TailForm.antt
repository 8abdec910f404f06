-- The direct meaning as turns one after the other.
use Rattle.std.specs.Prelude.{◌≡◌, ℕ, List}
use Rattle.base_trait.specs.Uses.{Read}
use Rattle.spec_ir.specs.Specification.{Spec}
use Rattle.semantics_values.specs.Values.{Val}
use Rattle.semantics.specs.Direct.{run}
use Rattle.semantics.specs.Tails.{run_tails}
use Rattle.semantics_laws.specs.Accepted.{IsAccepted}

-- Of an accepted specification, an activation as a list of turns, each of which ends with a value or with a call within
-- the group, is the direct meaning.
abbrev pub TailsAreTheMeaning : Type 0
TailsAreTheMeaning = (spec : Spec) (a d n i : ℕ) (args : List Val) (l : List Read) → IsAccepted spec → run_tails spec a d n i args l ≡ run spec a d n i args l
