-- What is read one after another.
use Rattle.std.proofs.Common.{◌≡◌, ℕ, List}
use Rattle.std.specs.Prelude.{Result, Ok}
use Rattle.support_command_line.specs.Code.{Code}
use Rattle.support_command_line.specs.SpecNames.{SpecName}
use Rattle.spec_ir.specs.Specification.{Spec}
use Rattle.code_image.specs.Image.{Image}
use Rattle.state_text.specs.Reading.{Entry}
use Rattle.support_io.specs.InputState.{InputState, InputsKept}
use Rattle.program_common.specs.declared.outcome.Halt.{Halt}
use Rattle.program_common.specs.Outcome.{Refusal}
use Rattle.program_common.specs.Outcomes.{Gives, Stops}
use Rattle.program_common.specs.Reading.{Gave, Reading}
use Rattle.program_common.specs.Steps.{Then, goes_on}
use Rattle.program_common.proofs.Readings.{IsWider, KeepsBytes, gave_later, gave_still}
use Rattle.program_common.proofs.Steps.{each, gives_next, gives_too, next_stops, opened, stops_too}
use Rattle.program_machine.specs.Code.{CodeOf}
use Rattle.program_machine.specs.Entry.{entry_cap}
use Rattle.program_machine.specs.Machines.{MachineOf}
use Rattle.program_machine.proofs.Chains.{code_still, code_wider, machine_still}
use Rattle.text_slices.specs.declared.slice_cell.SliceCell.{SliceCell}
use Rattle.program_machine.specs.Cells.{CellOf}
use Rattle.program_machine.specs.AnalysisEntry.{Enters, EntryOf}
use Rattle.program_machine.specs.Inputs.{CodeInputs, CodedOf, AnalysisInputs, PosedOf, SliceInputs, SoughtOf}

-- ---- a step that depends on how inputs are read

abbrev pub Step : Type 0 → Type 1
Step A = Reading → Result A Refusal → Type 0

-- What it gives of readings it gives of others that go on to give the same bytes.
abbrev pub IsStill : {A : Type 0} → Step A → Type 1
IsStill {A = A} step = (reads other : Reading) → KeepsBytes reads other → (found : A) → step reads (Ok found) → step other (Ok found)

-- Whatever it comes to it comes to over readings that give no less.
abbrev pub IsMonotone : {A : Type 0} → Step A → Type 1
IsMonotone {A = A} step = (reads other : Reading) → IsWider reads other → (found : Result A Refusal) → step reads found → step other found

module _ {A B : Type 0} (first : Step A) (next : A → Step B) where
  -- both, one after another
  abbrev pub both : Step B
  both reads = Then (first reads) (λ given. next given reads)

  pub both_still : IsStill first → ((given : A) → IsStill (next given)) → IsStill both
  both_still still later reads other keeps found is =
      let o = opened (first reads) (λ given. next given reads) found is in
      goes_on (still reads other keeps o.0 o.1) (later o.0 reads other keeps found o.2)

  pub both_wider : IsMonotone first → ((given : A) → IsMonotone (next given)) → IsMonotone both
  both_wider wider later reads other wide found is =
      each (first reads) (first other) (λ given. next given reads) (λ given. next given other) (wider reads other wide) (λ given. later given reads other wide) found is

  -- ---- over inputs that go from one state to the next
  module _ (old mid new : InputState) (kept : InputsKept old mid) (calm : mid.faults ≡ old.faults) (still : IsStill first) (later : (given : A) → IsMonotone (next given)) (given : A) (gave : first (Gave old mid) (Ok given)) where
    pub given_still : first (Gave old new) (Ok given)
    given_still = still (Gave old mid) (Gave old new) (gave_still old mid new) given gave

    pub next_wider : (found : Result B Refusal) → next given (Gave mid new) found → next given (Gave old new) found
    next_wider = later given (Gave mid new) (Gave old new) (gave_later old mid new kept calm)

    -- the second stops both
    pub both_stop : (halt : Halt) → Stops (next given (Gave mid new)) halt → Stops (both (Gave old new)) halt
    both_stop halt stops = next_stops (first (Gave old new)) (λ x. next x (Gave old new)) given halt given_still (stops_too (next given (Gave mid new)) (next given (Gave old new)) next_wider halt stops)

    -- it gives what both give
    pub both_give : {C : Type 0} (seen : C → B) (result : Result C Halt) → Gives (next given (Gave mid new)) seen result → Gives (both (Gave old new)) seen result
    both_give seen result gives = gives_next (first (Gave old new)) (λ x. next x (Gave old new)) seen given result given_still (gives_too (next given (Gave mid new)) (next given (Gave old new)) seen result next_wider gives)

-- ---- the steps

-- a step that reads nothing
abbrev pub plain : {A : Type 0} → (Result A Refusal → Type 0) → Step A
plain step reads = step

pub plain_still : {A : Type 0} (step : Result A Refusal → Type 0) → IsStill (plain step)
plain_still step reads other keeps found is = is

pub plain_wider : {A : Type 0} (step : Result A Refusal → Type 0) → IsMonotone (plain step)
plain_wider step reads other wide found is = is

abbrev pub machine : SpecName → Step Spec
machine name reads = MachineOf reads name

-- a specification with an image
abbrev pub with_image : Spec → Image → Result CodeInputs Refusal → Type 0
with_image spec image found = found ≡ Ok (record { spec = spec; image = image })

-- the code behind a specification
abbrev pub code_behind : Code → Spec → Step CodeInputs
code_behind code spec = both (λ reads. CodeOf reads code) (λ image. plain (with_image spec image))

pub machine_is_still : (name : SpecName) → IsStill (machine name)
machine_is_still name reads other keeps spec is = machine_still reads other keeps name spec is

module _ (code : Code) where
  pub code_is_still : IsStill (λ reads. CodeOf reads code)
  code_is_still reads other keeps image is = code_still reads other keeps code image is

  pub code_is_wider : IsMonotone (λ reads. CodeOf reads code)
  code_is_wider reads other wide found is = code_wider reads other wide code found is

  pub behind_still : (spec : Spec) → IsStill (code_behind code spec)
  behind_still spec = both_still (λ reads. CodeOf reads code) (λ image. plain (with_image spec image)) code_is_still (λ image. plain_still (with_image spec image))

  pub behind_wider : (spec : Spec) → IsMonotone (code_behind code spec)
  behind_wider spec = both_wider (λ reads. CodeOf reads code) (λ image. plain (with_image spec image)) code_is_wider (λ image. plain_wider (with_image spec image))

pub coded_still : (name : SpecName) (code : Code) → IsStill (λ reads. CodedOf reads name code)
coded_still name code = both_still (machine name) (code_behind code) (machine_is_still name) (behind_still code)

-- an input
abbrev pub input : ℕ → List ℕ → Step (List ℕ)
input cap name reads = reads cap name

pub input_still : (cap : ℕ) (name : List ℕ) → IsStill (input cap name)
input_still cap name reads other keeps found is = keeps cap name found is

pub input_wider : (cap : ℕ) (name : List ℕ) → IsMonotone (input cap name)
input_wider cap name reads other wide found is = wide cap name found is

-- a machine and its code with an entry
abbrev pub with_entry : CodeInputs → Entry → Result AnalysisInputs Refusal → Type 0
with_entry coded e found = found ≡ Ok (record { spec = coded.spec; image = coded.image; entry = e })

module _ (name : List ℕ) where
  entry_is_still : (spec : Spec) → IsStill (λ reads. EntryOf reads spec name)
  entry_is_still spec = both_still (input entry_cap name) (λ bytes. plain (Enters spec bytes)) (input_still entry_cap name) (λ bytes. plain_still (Enters spec bytes))

  entry_is_wider : (spec : Spec) → IsMonotone (λ reads. EntryOf reads spec name)
  entry_is_wider spec = both_wider (input entry_cap name) (λ bytes. plain (Enters spec bytes)) (input_wider entry_cap name) (λ bytes. plain_wider (Enters spec bytes))

  -- the entry behind a machine with its code
  abbrev pub entry_behind : CodeInputs → Step AnalysisInputs
  entry_behind coded = both (λ reads. EntryOf reads coded.spec name) (λ e. plain (with_entry coded e))

  pub entry_behind_still : (coded : CodeInputs) → IsStill (entry_behind coded)
  entry_behind_still coded = both_still (λ reads. EntryOf reads coded.spec name) (λ e. plain (with_entry coded e)) (entry_is_still coded.spec) (λ e. plain_still (with_entry coded e))

  pub entry_behind_wider : (coded : CodeInputs) → IsMonotone (entry_behind coded)
  entry_behind_wider coded = both_wider (λ reads. EntryOf reads coded.spec name) (λ e. plain (with_entry coded e)) (entry_is_wider coded.spec) (λ e. plain_wider (with_entry coded e))

pub posed_still : (name : SpecName) (code : Code) (entry : List ℕ) → IsStill (λ reads. PosedOf reads name code entry)
posed_still name code entry = both_still (λ reads. CodedOf reads name code) (entry_behind entry) (coded_still name code) (entry_behind_still entry)

-- the code and the entry behind a specification
module _ (code : Code) (entry : List ℕ) (spec : Spec) where
  -- the entry behind an image
  abbrev pub entry_with : Image → Step AnalysisInputs
  entry_with image = entry_behind entry (record { spec = spec; image = image })

  abbrev pub posed_behind : Step AnalysisInputs
  posed_behind = both (λ reads. CodeOf reads code) entry_with

  pub posed_behind_still : IsStill posed_behind
  posed_behind_still = both_still (λ reads. CodeOf reads code) entry_with (code_is_still code) (λ image. entry_behind_still entry (record { spec = spec; image = image }))

  pub posed_behind_wider : IsMonotone posed_behind
  posed_behind_wider = both_wider (λ reads. CodeOf reads code) entry_with (code_is_wider code) (λ image. entry_behind_wider entry (record { spec = spec; image = image }))

-- what is posed with a cell
abbrev pub with_cell : SliceCell → AnalysisInputs → Result SliceInputs Refusal → Type 0
with_cell asked posed found = found ≡ Ok (record { posed = posed; asked = asked })

-- the cell, the code and the entry behind a specification
module _ (cell : List ℕ) (code : Code) (entry : List ℕ) (spec : Spec) where
  abbrev pub posed_and_cell : SliceCell → Step SliceInputs
  posed_and_cell asked = both (posed_behind code entry spec) (λ posed. plain (with_cell asked posed))

  posed_and_cell_still : (asked : SliceCell) → IsStill (posed_and_cell asked)
  posed_and_cell_still asked = both_still (posed_behind code entry spec) (λ posed. plain (with_cell asked posed)) (posed_behind_still code entry spec) (λ posed. plain_still (with_cell asked posed))

  posed_and_cell_wider : (asked : SliceCell) → IsMonotone (posed_and_cell asked)
  posed_and_cell_wider asked = both_wider (posed_behind code entry spec) (λ posed. plain (with_cell asked posed)) (posed_behind_wider code entry spec) (λ posed. plain_wider (with_cell asked posed))

  abbrev pub sought_behind : Step SliceInputs
  sought_behind = both (plain (CellOf spec cell)) posed_and_cell

  pub sought_behind_still : IsStill sought_behind
  sought_behind_still = both_still (plain (CellOf spec cell)) posed_and_cell (plain_still (CellOf spec cell)) posed_and_cell_still

  pub sought_behind_wider : IsMonotone sought_behind
  sought_behind_wider = both_wider (plain (CellOf spec cell)) posed_and_cell (plain_wider (CellOf spec cell)) posed_and_cell_wider

pub sought_still : (name : SpecName) (cell : List ℕ) (code : Code) (entry : List ℕ) → IsStill (λ reads. SoughtOf reads name cell code entry)
sought_still name cell code entry = both_still (machine name) (sought_behind cell code entry) (machine_is_still name) (sought_behind_still cell code entry)
