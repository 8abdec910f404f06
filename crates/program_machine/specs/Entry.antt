-- The state from which a machine starts.
use Rattle.std.specs.Prelude.{◌≡◌, ℕ, List, Result, Ok, Err}
use Rattle.spec_ir.specs.Specification.{Spec}
use Rattle.semantics_values.specs.States.{State}
use Rattle.state_text.specs.declared.entry_error.EntryError.{EntryError}
use Rattle.state_text.specs.OneState.{one_state}
use Rattle.state_text.specs.Reading.{Entry, read}
use Rattle.program_common.specs.Outcome.{Refusal, entry_refused}
use Rattle.program_common.specs.Reading.{Reading}
use Rattle.program_common.specs.Steps.{Then}

-- how many bytes an entry may have
abbrev pub entry_cap : ℕ
entry_cap = 65536

-- what is not refused
abbrev pub entered : {A : Type 0} → Result A EntryError → Result A Refusal
entered (Ok found) = Ok found
entered (Err fault) = Err (entry_refused fault)

abbrev pub state_in : Spec → Result Entry EntryError → Result State EntryError
state_in spec (Ok entry) = one_state spec entry
state_in spec (Err fault) = Err fault

-- The one state of the entry that a text is, or its first fault.
abbrev pub StartsFrom : Spec → List ℕ → Result State Refusal → Type 0
StartsFrom spec text found = found ≡ entered (state_in spec (read spec text))

-- The state of an entry: it is read, and examined as one state.
abbrev pub StartOf : Reading → Spec → List ℕ → Result State Refusal → Type 0
StartOf reads spec name = Then (reads entry_cap name) (StartsFrom spec)
