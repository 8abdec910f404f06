use Rattle.std.proofs.Common.{◌≡◌, ◌∙◌, ◌⊎◌, ℕ, List, ap, subst, sym}
use Rattle.std.specs.Prelude.{Result, Ok, Err}
use Rattle.spec_ir.specs.Views.{specification}
use Rattle.state_text.specs.declared.entry_error.EntryError.{EntryError}
use Rattle.state_text.specs.declared.entry_error.EntryError.TheVariants as entry_error
use Rattle.state_text.specs.Reading.{Entry, entry_of, read}
use Rattle.program_stress_code.specs.Entry.{start_text}
use Rattle.semantics_values.specs.States.{State}
use Rattle.semantics_values.specs.Views.{state}
use Rattle.program_common.specs.Outcomes.{halt_of_entry}
use Rattle.program_machine.specs.Entry.{StartsFrom, entered, state_in}
use Rattle.program_machine.proofs.Giving.{no_entry, no_state}
use Rattle.program_machine.proofs.InputGiving.{passed_on}
use Rattle.program_analyses.proofs.inputs.stress_start.Goals as goal

pub returns-in_err-entry : goal.returns-in_err-entry
returns-in_err-entry c =
    let spec = specification c.args.spec.now in
    let error = c.in_err-entry.field-0.0 in
    let text : c.as_bytes.result.now ≡ start_text = c.as_bytes.ensures.value ∙ c.start_text.ensures.text in
    passed_on (StartsFrom spec start_text) state (halt_of_entry error) c.from_residual.result c.from_residual.ensures
    (no_entry spec start_text error (subst (λ (t : List ℕ). (read spec t ≡ Err error) ⊎ (error ≡ entry_error.NoMemory)) text c.in_err-entry.ensures))

pub returns-in_err-one_state : goal.returns-in_err-one_state
returns-in_err-one_state c =
    let spec = specification c.args.spec.now in
    let error = c.in_err-one_state.field-0.0 in
    let text : c.as_bytes.result.now ≡ start_text = c.as_bytes.ensures.value ∙ c.start_text.ensures.text in
    let is_read = subst (λ (t : List ℕ). read spec t ≡ Ok (entry_of c.in_ok-entry.entry)) text c.in_ok-entry.ensures in
    passed_on (StartsFrom spec start_text) state (halt_of_entry error) c.from_residual-in_err-one_state.result c.from_residual-in_err-one_state.ensures
    (no_state spec start_text (entry_of c.in_ok-entry.entry) error is_read c.in_err-one_state.ensures)

pub returns : goal.returns
returns c =
    let spec = specification c.args.spec.now in
    let text : c.as_bytes.result.now ≡ start_text = c.as_bytes.ensures.value ∙ c.start_text.ensures.text in
    let is_read = subst (λ (t : List ℕ). read spec t ≡ Ok (entry_of c.in_ok-entry.entry)) text c.in_ok-entry.ensures in
    sym (ap (λ (r : Result Entry EntryError). entered (state_in spec r)) is_read ∙ ap (λ (r : Result State EntryError). entered r) c.in_ok-one_state.ensures)
