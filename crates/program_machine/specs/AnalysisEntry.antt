-- The entry of an analysis.
use Rattle.std.specs.Prelude.{◌≡◌, ℕ, List, Ok, Result}
use Rattle.spec_ir.specs.Specification.{Spec}
use Rattle.state_text.specs.Reading.{Entry, read}
use Rattle.program_common.specs.Outcome.{Refusal}
use Rattle.program_common.specs.Reading.{Reading}
use Rattle.program_common.specs.Steps.{Then}
use Rattle.program_machine.specs.Entry.{entered, entry_cap}

-- The entry that a text is, or its first fault.
abbrev pub Enters : Spec → List ℕ → Result Entry Refusal → Type 0
Enters spec text found = found ≡ entered (read spec text)

-- The entry of a name: its input is read, and its lines are examined.
abbrev pub EntryOf : Reading → Spec → List ℕ → Result Entry Refusal → Type 0
EntryOf reads spec name = Then (reads entry_cap name) (Enters spec)

-- The entry was read from some text.
abbrev pub IsEntry : Spec → Entry → Type 0
IsEntry spec entry = (bytes : List ℕ) × (read spec bytes ≡ Ok entry)
