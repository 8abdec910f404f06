-- What domains ask, and accepted specifications and entries that are read have.
use Rattle.std.specs.Prelude.{◌≡◌, ℕ, true, List, Ok, Some}
use Rattle.spec_ir.specs.declared.spec.Machine.{Machine}
use Rattle.spec_ir.specs.Specification.{Spec}
use Rattle.semantics_values.specs.Types.{environment_of}
use Rattle.semantics_laws.specs.Accepted.{IsAccepted}
use Rattle.state_text.specs.Reading.{Entry, read}
use Rattle.abstract_value_laws.specs.TypeLaws.{are_keyed}
use Rattle.domain_laws.specs.Entries.{LinesFit}
use Rattle.domain_laws.specs.States.{has_states, state_type}

-- Map types of accepted specifications have at most 2^32 keys.
abbrev pub AcceptedAreKeyed : Type 0
AcceptedAreKeyed = (spec : Spec) → IsAccepted spec → are_keyed (environment_of spec) ≡ true

-- Accepted machines have states.
abbrev pub AcceptedHaveStates : Type 0
AcceptedHaveStates = (spec : Spec) (m : Machine) → IsAccepted spec → spec.machine ≡ Some m → has_states spec ≡ true

-- The lines of an entry that is read fit the fields of states.
abbrev pub ReadEntriesFit : Type 0
ReadEntriesFit = (spec : Spec) (bytes : List ℕ) (e : Entry) → read spec bytes ≡ Ok e → LinesFit (state_type spec).fields e.lines
