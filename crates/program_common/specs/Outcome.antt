-- What a run comes to: one value for each status and line.
use Rattle.std.specs.Prelude.{ℕ, List, Result, Ok, Err}
use Rattle.text_faults.specs.declared.claim_error.ClaimError.{ClaimError}
use Rattle.text_faults.specs.ClaimFaultLines as claims
use Rattle.code_image.specs.declared.image_error.ImageError.{ImageError}
use Rattle.code_image.specs.Faults as image
use Rattle.state_text.specs.declared.entry_error.EntryError.{EntryError}
use Rattle.state_text.specs.FaultLines as entry
use Rattle.text_faults.specs.declared.table_error.TableError.{TableError}
use Rattle.text_faults.specs.TableFaultLines as table
use Rattle.program_common.specs.declared.rejection.Rejection.{Rejection}
use Rattle.program_common.specs.declared.spec_fault.SpecFault.{SpecFault}
use Rattle.program_common.specs.declared.status.Status.{Status}
use Rattle.program_common.specs.declared.status.Status.TheVariants as s
use Rattle.program_common.specs.Lines.{bad_words_line, calls_spent_line, cannot_read_line, rejection_line, targets_line, too_long_line, undecodable_line}
use Rattle.program_common.specs.SpecFaults.{spec_line}

-- the text that the words ask for; where it tells of a machine that stopped for want of a decoding or of calls, the status says so
pub data Answer : Type 0 where
  text : List ℕ → Answer
  undecodable : List ℕ → Answer
  calls_ended : List ℕ → Answer

-- why a run has no text to give, with what it names
pub data Refusal : Type 0 where
  -- the words have no meaning
  bad_words : Refusal
  -- the input of this name could not be read
  cannot_read : (name : List ℕ) → Refusal
  -- it is longer than its cap
  too_long : (name : List ℕ) → Refusal
  -- the specification has this fault first
  spec_refused : SpecFault → Refusal
  -- the code has this fault first
  code_refused : ImageError → Refusal
  -- the entry has this fault first
  entry_refused : EntryError → Refusal
  -- a function had no turn left
  calls_spent : Refusal
  -- the code word at an address is no instruction
  undecodable_at : (at word : ℕ) → Refusal
  -- the instruction at an address may lead to too many addresses: the counter behind it, as text
  too_many_targets : (at : ℕ) → (shown : List ℕ) → Refusal
  -- the text of the table has this fault first
  table_refused : TableError → Refusal
  -- the text of the claims has this fault first
  claims_refused : ClaimError → Refusal
  -- the table is not closed: its first part that fails
  rejected : Rejection → Refusal

-- an answer, or a refusal
abbrev pub Outcome : Type 0
Outcome = Result Answer Refusal

abbrev pub status_of : Outcome → Status
status_of (Ok (text bytes)) = s.Ok
status_of (Ok (undecodable bytes)) = s.Undecodable
status_of (Ok (calls_ended bytes)) = s.CallsSpent
status_of (Err bad_words) = s.BadWords
status_of (Err (cannot_read name)) = s.ReadFault
status_of (Err (too_long name)) = s.TooLong
status_of (Err (spec_refused fault)) = s.SpecRefused
status_of (Err (code_refused fault)) = s.CodeRefused
status_of (Err (entry_refused fault)) = s.EntryRefused
status_of (Err calls_spent) = s.CallsSpent
status_of (Err (undecodable_at at word)) = s.Undecodable
status_of (Err (too_many_targets at shown)) = s.TooManyTargets
status_of (Err (table_refused fault)) = s.TableRefused
status_of (Err (claims_refused fault)) = s.ClaimsRefused
status_of (Err (rejected rejection)) = s.Rejected

-- what is written
abbrev pub line_of : Outcome → List ℕ
line_of (Ok (text bytes)) = bytes
line_of (Ok (undecodable bytes)) = bytes
line_of (Ok (calls_ended bytes)) = bytes
line_of (Err bad_words) = bad_words_line
line_of (Err (cannot_read name)) = cannot_read_line name
line_of (Err (too_long name)) = too_long_line name
line_of (Err (spec_refused fault)) = spec_line fault
line_of (Err (code_refused fault)) = image.fault_line fault
line_of (Err (entry_refused fault)) = entry.fault_line fault
line_of (Err calls_spent) = calls_spent_line
line_of (Err (undecodable_at at word)) = undecodable_line at word
line_of (Err (too_many_targets at shown)) = targets_line at shown
line_of (Err (table_refused fault)) = table.fault_line fault
line_of (Err (claims_refused fault)) = claims.fault_line fault
line_of (Err (rejected rejection)) = rejection_line rejection
