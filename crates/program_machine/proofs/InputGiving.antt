-- What the functions of the code give.
use Rattle.std.proofs.Common.{◌≡◌, ◌⊎◌, inl, inr, ℕ, List, sym, ap, subst}
use Rattle.std.specs.Prelude.{IsErr, IsErrAnd, Result, Ok, Err}
use Rattle.spec_ir.specs.Specification.{Spec}
use Rattle.state_text.specs.declared.entry_error.EntryError.{EntryError}
use Rattle.state_text.specs.declared.entry_error.EntryError.TheVariants as entry_error
use Rattle.state_text.specs.Reading.{Entry, read}
use Rattle.program_common.specs.declared.outcome.Halt.{Halt}
use Rattle.program_common.specs.Outcome.{Refusal}
use Rattle.program_common.specs.Outcomes.{Gives, Stops, halt_of_entry}
use Rattle.program_machine.specs.Entry.{entered}
use Rattle.program_machine.specs.AnalysisEntry.{Enters}

-- a text that is no entry
pub no_entry_in : (spec : Spec) (text : List ℕ) (error : EntryError) → (read spec text ≡ Err error) ⊎ (error ≡ entry_error.NoMemory) → Stops (Enters spec text) (halt_of_entry error)
no_entry_in spec text entry_error.NoMemory first = tt
no_entry_in spec text error (inl first) = sym (ap (λ (r : Result Entry EntryError). entered r) first)
no_entry_in spec text error (inr none) = absurd (cc)

-- what stops a step is passed on
pub passed_on : {A B : Type 0} (step : Result B Refusal → Type 0) (seen : A → B) (halt : Halt) (result : Result A Halt) → IsErr result × IsErrAnd result (λ e. e ≡ halt) → Stops step halt → Gives step seen result
passed_on step seen halt (Ok found) is stops = absurd is.1
passed_on step seen halt (Err e) is stops = subst (λ (h : Halt). Stops step h) (sym is.1) stops
