use Rattle.std.proofs.Common.{ap, sym, rules}
use Rattle.std.specs.Prelude.{Result}
use Rattle.spec_ir.specs.Views.{specification}
use Rattle.semantics_values.specs.States.{State}
use Rattle.semantics_values.specs.Views.{state}
use Rattle.state_text.specs.declared.entry_error.EntryError.{EntryError}
use Rattle.state_text.specs.Reading.{entry_of}
use Rattle.program_common.specs.Outcomes.{halt_of_entry}
use Rattle.program_common.specs.Reading.{Gave}
use Rattle.program_common.proofs.Giving.{no_other_fault}
use Rattle.program_machine.specs.Entry.{StartOf, entered}
use Rattle.program_machine.proofs.InputGiving.{passed_on}
use Rattle.program_machine.proofs.Starts.{entry_stops, state_starts, state_stops}
use Rattle.program_machine.proofs.entry.start_of.Goals as goal

pub returns-in_err-entry-clause-gives : goal.returns-in_err-entry-clause-gives
returns-in_err-entry-clause-gives g c =
    let gives = entry_stops (Gave (g.I.Inputs.state c.args.inputs.now) (g.I.Inputs.state c.entry_of.new.inputs)) (specification c.args.spec.now) c.args.name.now c.in_err-entry.field-0.0 c.in_err-entry.ensures.gives in
    search (rules, gives)

pub returns-in_err-one_state-clause-gives : goal.returns-in_err-one_state-clause-gives
returns-in_err-one_state-clause-gives g c =
    let reads = Gave (g.I.Inputs.state c.args.inputs.now) (g.I.Inputs.state c.entry_of.new.inputs) in
    let spec = specification c.args.spec.now in
    let error = c.in_err-one_state.field-0.0 in
    passed_on (StartOf reads spec c.args.name.now) state (halt_of_entry error) c.from_residual-in_err-one_state.result c.from_residual-in_err-one_state.ensures
    (state_stops reads spec c.args.name.now (entry_of c.in_ok-entry.entry) c.in_ok-entry.ensures.gives error c.in_err-one_state.ensures)

pub returns-in_err-one_state-clause-no_other_fault : goal.returns-in_err-one_state-clause-no_other_fault
returns-in_err-one_state-clause-no_other_fault g c =
    no_other_fault (g.I.Inputs.state c.args.inputs.now) (g.I.Inputs.state c.entry_of.new.inputs) c.from_residual-in_err-one_state.result c.in_ok-entry.ensures.no_other_fault

pub returns-clause-gives : goal.returns-clause-gives
returns-clause-gives g c =
    let reads = Gave (g.I.Inputs.state c.args.inputs.now) (g.I.Inputs.state c.entry_of.new.inputs) in
    state_starts reads (specification c.args.spec.now) c.args.name.now (entry_of c.in_ok-entry.entry) c.in_ok-entry.ensures.gives _
    (sym (ap (λ (s : Result State EntryError). entered s) c.in_ok-one_state.ensures))
