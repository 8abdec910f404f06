-- What the functions of the code give.
use Rattle.std.proofs.Common.{◌≡◌, ◌⊎◌, inl, inr, ℕ, List, Option, Some, None, length, refl, sym, ◌∙◌, ap, subst}
use Rattle.std.specs.Prelude.{Result, Ok, Err, IfOk, IsSome}
use Rattle.spec_ir.specs.declared.spec.Machine.{Machine as MachineNumbers}
use Rattle.spec_ir.specs.declared.spec.SpecUse.TheVariants.{Machine}
use Rattle.spec_ir.specs.declared.spec.Spec.{Spec as Checked}
use Rattle.spec_ir.specs.Specification.{Spec}
use Rattle.spec_ir.specs.Views.{specification}
use Rattle.spec_declarations.proofs.States.{machines_are_there}
use Rattle.semantics_laws.specs.Accepted.{IsAccepted}
use Rattle.semantics_laws.proofs.Kept.{runs_keep_types}
use Rattle.semantics_accepted.proofs.Accepted.{checked_are_accepted}
use Rattle.code_image.specs.Image.{Image, code_at}
use Rattle.state_text.specs.declared.entry_error.EntryError.{EntryError}
use Rattle.state_text.specs.declared.entry_error.EntryError.TheVariants as entry_error
use Rattle.state_text.specs.OneState.{one_state}
use Rattle.state_text.specs.Reading.{Entry, read}
use Rattle.state_text.specs.Stops.{stopped_text}
use Rattle.semantics_values.specs.States.{State}
use Rattle.semantics_values.specs.Types.{environment_of}
use Rattle.semantics_values.specs.Views.{state}
use Rattle.concrete_emulator.specs.declared.runs.EmulatedRun.{EmulatedRun}
use Rattle.concrete_emulator.specs.Ends.{IsEmulated, IsStateOf}
use Rattle.concrete_emulator.proofs.Texts.{same_texts}
use Rattle.program_common.specs.Outcome.{Answer}
use Rattle.program_common.specs.declared.outcome.Halt.{Halt}
use Rattle.program_common.specs.Outcomes.{Gives, Stops, halt_of_entry}
use Rattle.program_common.specs.Sources.{IsSpecification, Specifies}
use Rattle.program_machine.specs.Entry.{StartsFrom, entered, state_in}
use Rattle.program_machine.specs.Running.{IsRunOf, answer_of, end_of}
use Rattle.program_machine.proofs.Ascending.{state_ascends}

-- ---- machines

pub specified_accepted : (source : List ℕ) (spec : Spec) → IsSpecification Machine source spec → IsAccepted spec
specified_accepted source spec p =
    checked_are_accepted Machine p.tree spec (p.parsed.tokens, length source, p.parsed.parsed) p.faultless p.checked

there : (found : Option MachineNumbers) (machine : MachineNumbers) → found ≡ Some machine → IsSome found
there found machine is = subst (λ (o : Option MachineNumbers). IsSome o) (sym is) refl

pub specified_machine : (source : List ℕ) (spec : Spec) → IsSpecification Machine source spec → IsSome spec.machine
specified_machine source spec p =
    let m = machines_are_there p.tree p.faultless.1.1.0 in
    there spec.machine m.0 (p.checked.machine ∙ m.1)

-- what the code gives of a source
pub gives_accepted : (source : List ℕ) (result : Result Checked Halt) → Gives (Specifies Machine source) specification result → IfOk result (λ spec. IsAccepted (specification spec))
gives_accepted source (Ok spec) p = specified_accepted source (specification spec) p
gives_accepted source (Err halt) p = tt

pub gives_machine : (source : List ℕ) (result : Result Checked Halt) → Gives (Specifies Machine source) specification result → IfOk result (λ spec. IsSome (specification spec).machine)
gives_machine source (Ok spec) p = specified_machine source (specification spec) p
gives_machine source (Err halt) p = tt

-- ---- entries

-- a text that is no entry
pub no_entry : (spec : Spec) (text : List ℕ) (error : EntryError) → (read spec text ≡ Err error) ⊎ (error ≡ entry_error.NoMemory) → Stops (StartsFrom spec text) (halt_of_entry error)
no_entry spec text entry_error.NoMemory first = tt
no_entry spec text error (inl first) = sym (ap (λ (r : Result Entry EntryError). entered (state_in spec r)) first)
no_entry spec text error (inr none) = absurd (cc)

-- an entry of several states
pub no_state : (spec : Spec) (text : List ℕ) (entry : Entry) (error : EntryError) → read spec text ≡ Ok entry → (one_state spec entry ≡ Err error) ⊎ (error ≡ entry_error.NoMemory)
    → Stops (StartsFrom spec text) (halt_of_entry error)
no_state spec text entry entry_error.NoMemory is first = tt
no_state spec text entry error is (inl first) = sym (ap (λ (r : Result Entry EntryError). entered (state_in spec r)) is ∙ ap entered first)
no_state spec text entry error is (inr none) = absurd (cc)

-- ---- runs

pub some_machine : (found : Option MachineNumbers) → IsSome found → (machine : MachineNumbers) × (found ≡ Some machine)
some_machine None is = absurd (cc)
some_machine (Some machine) is = (machine, refl)

-- what is told of the end of a run
pub run_told : (spec : Spec) (image : Image) (turns bound : ℕ) (start : State) (e : EmulatedRun) (answer : Answer) → IsAccepted spec → IsSome spec.machine → IsStateOf spec start → IsEmulated spec (code_at image) turns bound start e
    → answer ≡ answer_of e.stop (stopped_text spec e.stop e.done (state e.state)) → IsRunOf spec image turns bound start answer
run_told spec image turns bound start e answer ok some typed emulated told =
    let m = some_machine spec.machine some in
    let last = end_of spec m.0 image turns bound start in
    let end = emulated m.0 m.1 in
    let kept = runs_keep_types spec m.0 (code_at image) turns bound start ok m.1 (typed m.0 m.1) in
    let one_text = same_texts spec e.stop last.done (state e.state) last.state end.ascending (state_ascends (environment_of spec) m.0.state last.state kept.state) end.last in
    record {
      machine = m.0;
      is_machine = m.1;
      tells = record {
        stop = e.stop;
        why = end.stop;
        told = told ∙ ap (λ (n : ℕ). answer_of e.stop (stopped_text spec e.stop n (state e.state))) end.done ∙ ap (answer_of e.stop) one_text;
      };
    }
