use Rattle.std.proofs.Common.{◌≡◌, ◌∙◌, ◌⊎◌, ℕ, List, ap, subst, sym}
use Rattle.std.specs.Prelude.{Result, Ok, Err}
use Rattle.spec_ir.specs.Views.{specification}
use Rattle.state_text.specs.declared.entry_error.EntryError.{EntryError}
use Rattle.state_text.specs.declared.entry_error.EntryError.TheVariants as entry_error
use Rattle.state_text.specs.Reading.{Entry, entry_of, read}
use Rattle.program_stress_code.specs.Entry.{entry_text}
use Rattle.program_common.specs.Outcomes.{halt_of_entry}
use Rattle.program_machine.specs.Entry.{entered}
use Rattle.program_machine.specs.AnalysisEntry.{Enters}
use Rattle.program_machine.proofs.InputGiving.{no_entry_in, passed_on}
use Rattle.program_analyses.proofs.inputs.stress_entry.Goals as goal

pub returns-in_err-read_entry-clause-gives : goal.returns-in_err-read_entry-clause-gives
returns-in_err-read_entry-clause-gives c =
    let spec = specification c.args.spec.now in
    let error = c.in_err-read_entry.field-0.0 in
    let text : c.as_bytes.result.now ≡ entry_text = c.as_bytes.ensures.value ∙ c.entry_text.ensures.text in
    passed_on (Enters spec entry_text) entry_of (halt_of_entry error) c.from_residual.result c.from_residual.ensures
    (no_entry_in spec entry_text error (subst (λ (t : List ℕ). (read spec t ≡ Err error) ⊎ (error ≡ entry_error.NoMemory)) text c.in_err-read_entry.ensures))

pub returns-clause-gives : goal.returns-clause-gives
returns-clause-gives c =
    let spec = specification c.args.spec.now in
    let text : c.as_bytes.result.now ≡ entry_text = c.as_bytes.ensures.value ∙ c.entry_text.ensures.text in
    sym (ap (λ (r : Result Entry EntryError). entered r) (subst (λ (t : List ℕ). read spec t ≡ Ok (entry_of c.in_ok-read_entry.field-0)) text c.in_ok-read_entry.ensures))
