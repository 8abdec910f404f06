-- The state of an entry that was read.
use Rattle.std.proofs.Common.{◌≡◌, ◌⊎◌, ◌∙◌, ℕ, List, sym, ap}
use Rattle.std.specs.Prelude.{Result, Ok, Err}
use Rattle.spec_ir.specs.Specification.{Spec}
use Rattle.semantics_values.specs.States.{State}
use Rattle.state_text.specs.declared.entry_error.EntryError.{EntryError}
use Rattle.state_text.specs.declared.entry_error.EntryError.TheVariants as entry_error
use Rattle.state_text.specs.OneState.{one_state}
use Rattle.state_text.specs.Reading.{Entry, read}
use Rattle.program_common.specs.declared.outcome.Halt.{Halt}
use Rattle.program_common.specs.declared.outcome.Halt.TheVariants.{Refused, NoMemory}
use Rattle.program_common.specs.Outcome.{Refusal, entry_refused}
use Rattle.program_common.specs.Outcomes.{Stops, halt_of_entry, refusal_of}
use Rattle.program_common.specs.Reading.{Reading}
use Rattle.program_common.specs.Steps.{refused, goes_on}
use Rattle.program_common.proofs.Steps.{next_stops, opened}
use Rattle.program_machine.specs.AnalysisEntry.{Enters, EntryOf}
use Rattle.program_machine.specs.Entry.{StartOf, StartsFrom, entered, entry_cap, state_in}
use Rattle.program_machine.proofs.Giving.{no_state}

-- a fault of an entry is one of its state
not_read : (spec : Spec) (refusal : Refusal) (found : Result Entry EntryError) → Err refusal ≡ entered found → Err refusal ≡ entered (state_in spec found)
not_read spec refusal (Ok entry) is = absurd (cc)
not_read spec refusal (Err fault) is = let same : refusal ≡ entry_refused fault = cc in ap (λ (r : Refusal). Err r) same

was_read : (entry : Entry) (found : Result Entry EntryError) → Ok entry ≡ entered found → found ≡ Ok entry
was_read entry (Ok other) is = let same : other ≡ entry = cc in ap (λ (e : Entry). Ok e) same
was_read entry (Err fault) is = absurd (cc)

module _ (reads : Reading) (spec : Spec) (name : List ℕ) where
  no_entry_read : (refusal : Refusal) → EntryOf reads spec name (Err refusal) → StartOf reads spec name (Err refusal)
  no_entry_read refusal (refused p) = refused p
  no_entry_read refusal (goes_on {given = text} p is) = goes_on p (not_read spec refusal (read spec text) is)

  -- without the entry
  pub entry_stops : (halt : Halt) → Stops (EntryOf reads spec name) halt → Stops (StartOf reads spec name) halt
  entry_stops (Refused refusal) p = no_entry_read (refusal_of refusal) p
  entry_stops NoMemory p = tt

  module _ (entry : Entry) (given : EntryOf reads spec name (Ok entry)) where
    -- the entry has several states
    pub state_stops : (error : EntryError) → (one_state spec entry ≡ Err error) ⊎ (error ≡ entry_error.NoMemory) → Stops (StartOf reads spec name) (halt_of_entry error)
    state_stops error first =
        let o = opened (reads entry_cap name) (Enters spec) entry given in
        next_stops (reads entry_cap name) (StartsFrom spec) o.0 (halt_of_entry error) o.1 (no_state spec o.0 entry error (was_read entry (read spec o.0) o.2) first)

    -- and one
    pub state_starts : (found : Result State Refusal) → found ≡ entered (one_state spec entry) → StartOf reads spec name found
    state_starts found is =
        let o = opened (reads entry_cap name) (Enters spec) entry given in
        goes_on o.1 (is ∙ sym (ap (λ (e : Result Entry EntryError). entered (state_in spec e)) (was_read entry (read spec o.0) o.2)))
