-- States as values over single numbers.
use Rattle.std.specs.Prelude.{◌≡◌, ℕ, ◌^◌, true, nat_lt, Option, Some, None, if◌then◌else◌}
use Rattle.base_trait.specs.declared.uses.Stamp.{Stamp}
use Rattle.base_concrete.specs.Meaning.{concrete}
use Rattle.spec_ir.specs.declared.ty.Ty.TheVariants.{Data as DataTy}
use Rattle.spec_ir.specs.Specification.{Spec}
use Rattle.semantics_values.specs.States.{State, value_of}
use Rattle.semantics_values.specs.Types.{environment_of}
use Rattle.semantics_laws.specs.KeptTypes.{IsTypedState}
use Rattle.abstract_value_laws.specs.Abs.{Abs, Cases, Parts, word, made, present, part}
use Rattle.abstract_value_laws.specs.Fits.{Fits}
use Rattle.abstract_value_laws.specs.Types.{has_type}
use Rattle.concrete_calls.specs.Laws.{StandsFor, room}
use Rattle.concrete_emulator.specs.Laws.{AllAscend, IsSameState}

-- the counter of a state: the first field of the first constructor, a word of at most 32 bits
abbrev pub counter_in_fields : Parts ℕ Stamp → Option ℕ
counter_in_fields (part (word w x) xs) = if nat_lt x (2 ^ 32) then Some x else None
counter_in_fields _ = None

abbrev pub counter_in_cases : Cases ℕ Stamp → Option ℕ
counter_in_cases (present xs cs) = counter_in_fields xs
counter_in_cases _ = None

abbrev pub counter_in : Abs ℕ Stamp → Option ℕ
counter_in (made t cs) = counter_in_cases cs
counter_in _ = None

-- The value stands for a state, of the type of the machine's states.
pub record Shows (spec : Spec) (ty : ℕ) (s : State) (x : Abs ℕ Stamp) : Type 0 where
  pub of_type : IsTypedState (environment_of spec) ty s
  pub typed : has_type (environment_of spec) x (DataTy ty) ≡ true
  pub fits : Fits concrete tt room x
  pub stands : StandsFor x (value_of ty s)

-- It stands for some state.
pub record ShowsState (spec : Spec) (ty : ℕ) (x : Abs ℕ Stamp) : Type 0 where
  pub shown : State
  pub shows : Shows spec ty shown x

-- The value stands for a state, whatever its types.
pub record IsStateValue (s : State) (x : Abs ℕ Stamp) : Type 0 where
  pub ty : ℕ
  pub stands : StandsFor x (value_of ty s)
  pub fits : Fits concrete tt room x

-- It stands for some state.
pub record IsOfState (x : Abs ℕ Stamp) : Type 0 where
  pub shown : State
  pub is : IsStateValue shown x

-- The same state, however its maps list their cells; their keys ascend.
pub record IsLast (last s : State) : Type 0 where
  pub same : IsSameState last s
  pub ascending : AllAscend last.parts
