use Rattle.std.proofs.Common.{◌++◌, ◌<◌, ◌^◌, length, [], ◌∷◌, append_assoc, refl, rules, subst, sym}
use Rattle.std.specs.Prelude.{Ok}
use Rattle.support_command_line.specs.Views.{code_of, spec_of}
use Rattle.spec_ir.specs.declared.spec.Spec as code
use Rattle.spec_ir.specs.Views.{specification}
use Rattle.domain_laws.specs.States.{state_type}
use Rattle.program_common.specs.Reading.{Gave}
use Rattle.program_common.specs.Sources.{source_inputs}
use Rattle.program_common.specs.Steps.{goes_on}
use Rattle.program_common.proofs.Readings.{reads_both, reads_first, reads_same, reads_still, reads_stopped}
use Rattle.program_common.proofs.Steps.{first_stops, next_stops}
use Rattle.program_machine.specs.Code.{part_inputs}
use Rattle.program_machine.specs.Entry.{entry_cap}
use Rattle.program_machine.specs.Machines.{MachineOf}
use Rattle.program_machine.specs.Cells.{CellOf}
use Rattle.program_machine.specs.Inputs.{PosedWith}
use Rattle.program_machine.specs.Views.{analysis_inputs_of}
use Rattle.program_machine.proofs.InputChains.{both_stop, given_still, machine, machine_is_still, next_wider, posed_and_cell, sought_behind, sought_behind_wider, with_cell}
use Rattle.program_machine.proofs.Problems.{machine_few}
use Rattle.program_machine.proofs.slice_inputs.slice_inputs_of.Goals as goal

pub returns-in_err-spec-clause-gives : goal.returns-in_err-spec-clause-gives
returns-in_err-spec-clause-gives g c =
    let reads = Gave (g.I.Inputs.state c.args.inputs.now) (g.I.Inputs.state c.machine_of.new.inputs) in
    let gives = first_stops (MachineOf reads (spec_of c.args.name)) (λ spec. sought_behind c.args.cell.now (code_of c.args.code.now) c.args.entry_name.now spec reads) c.in_err-spec.field-0.0 c.in_err-spec.ensures.gives in
    search (rules, gives)

pub returns-in_err-spec-clause-reads : goal.returns-in_err-spec-clause-reads
returns-in_err-spec-clause-reads g c =
    let sources = source_inputs (spec_of c.args.name) in
    let parts = part_inputs (code_of c.args.code.now).parts in
    let entry = (c.args.entry_name.now, entry_cap) ∷ [] in
    reads_first g.I.Inputs.state (sources ++ parts) entry c.args.inputs.now c.machine_of.new.inputs _
    (reads_first g.I.Inputs.state sources parts c.args.inputs.now c.machine_of.new.inputs _
    (reads_stopped g.I.Inputs.state sources c.args.inputs.now c.machine_of.new.inputs c.in_err-spec.field-0.0 _ c.from_residual.ensures c.in_err-spec.ensures.reads))

pub returns-in_err-asked-clause-gives : goal.returns-in_err-asked-clause-gives
returns-in_err-asked-clause-gives g c =
    let cell = c.args.cell.now in
    let code = code_of c.args.code.now in
    let entry = c.args.entry_name.now in
    let spec = specification c.in_ok-spec.spec in
    let reads = Gave (g.I.Inputs.state c.args.inputs.now) (g.I.Inputs.state c.machine_of.new.inputs) in
    let gives = next_stops (MachineOf reads (spec_of c.args.name)) (λ s. sought_behind cell code entry s reads) spec c.in_err-asked.field-0.0 c.in_ok-spec.ensures.gives
    (first_stops (CellOf spec cell) (λ asked. posed_and_cell cell code entry spec asked reads) c.in_err-asked.field-0.0 c.in_err-asked.ensures) in
    search (rules, gives)

pub returns-in_err-asked-clause-reads : goal.returns-in_err-asked-clause-reads
returns-in_err-asked-clause-reads g c =
    let sources = source_inputs (spec_of c.args.name) in
    let parts = part_inputs (code_of c.args.code.now).parts in
    let entry = (c.args.entry_name.now, entry_cap) ∷ [] in
    reads_first g.I.Inputs.state (sources ++ parts) entry c.args.inputs.now c.machine_of.new.inputs _
    (reads_first g.I.Inputs.state sources parts c.args.inputs.now c.machine_of.new.inputs _
    (reads_still g.I.Inputs.state sources c.args.inputs.now c.machine_of.new.inputs c.in_ok-spec.spec _ c.in_ok-spec.ensures.reads))

pub returns-in_err-posed-clause-gives : goal.returns-in_err-posed-clause-gives
returns-in_err-posed-clause-gives g c =
    let cell = c.args.cell.now in
    let code = code_of c.args.code.now in
    let entry = c.args.entry_name.now in
    let mid = g.I.Inputs.state c.machine_of.new.inputs in
    let new = g.I.Inputs.state c.posed_with.new.inputs in
    let spec = specification c.in_ok-spec.spec in
    let asked = c.in_ok-asked.asked in
    let gives = both_stop (machine (spec_of c.args.name)) (sought_behind cell code entry) (g.I.Inputs.state c.args.inputs.now) mid new c.machine_of.ensures.reads.kept c.in_ok-spec.ensures.reads.no_other_fault (machine_is_still (spec_of c.args.name)) (sought_behind_wider cell code entry)
    spec c.in_ok-spec.ensures.gives c.in_err-posed.field-0.0
    (next_stops (CellOf spec cell) (λ a. posed_and_cell cell code entry spec a (Gave mid new)) asked c.in_err-posed.field-0.0 c.in_ok-asked.ensures
    (first_stops (PosedWith (Gave mid new) spec code entry) (with_cell asked) c.in_err-posed.field-0.0 c.in_err-posed.ensures.gives)) in
    search (rules, gives)

pub returns-in_err-posed-clause-reads : goal.returns-in_err-posed-clause-reads
returns-in_err-posed-clause-reads g c =
    let sources = source_inputs (spec_of c.args.name) in
    let parts = part_inputs (code_of c.args.code.now).parts in
    let entry = (c.args.entry_name.now, entry_cap) ∷ [] in
    reads_same g.I.Inputs.state (sources ++ (parts ++ entry)) (sources ++ parts ++ entry) c.args.inputs.now c.posed_with.new.inputs _ (sym (append_assoc sources parts entry))
    (reads_both g.I.Inputs.state sources (parts ++ entry) c.args.inputs.now c.machine_of.new.inputs c.posed_with.new.inputs c.in_ok-spec.spec _ c.in_ok-spec.ensures.reads
    (reads_stopped g.I.Inputs.state (parts ++ entry) c.machine_of.new.inputs c.posed_with.new.inputs c.in_err-posed.field-0.0 _ c.from_residual-in_err-posed.ensures c.in_err-posed.ensures.reads))

pub returns-clause-gives : goal.returns-clause-gives
returns-clause-gives g c =
    let cell = c.args.cell.now in
    let code = code_of c.args.code.now in
    let entry = c.args.entry_name.now in
    let name = spec_of c.args.name in
    let old = g.I.Inputs.state c.args.inputs.now in
    let mid = g.I.Inputs.state c.machine_of.new.inputs in
    let new = g.I.Inputs.state c.posed_with.new.inputs in
    let spec = specification c.in_ok-spec.spec in
    let asked = c.in_ok-asked.asked in
    goes_on
    (given_still (machine name) (sought_behind cell code entry) old mid new c.machine_of.ensures.reads.kept c.in_ok-spec.ensures.reads.no_other_fault (machine_is_still name) (sought_behind_wider cell code entry) spec c.in_ok-spec.ensures.gives)
    (next_wider (machine name) (sought_behind cell code entry) old mid new c.machine_of.ensures.reads.kept c.in_ok-spec.ensures.reads.no_other_fault (machine_is_still name) (sought_behind_wider cell code entry) spec c.in_ok-spec.ensures.gives
    (Ok (record { posed = analysis_inputs_of c.in_ok-posed.posed; asked = asked })) (goes_on c.in_ok-asked.ensures (goes_on c.in_ok-posed.ensures.gives refl)))

pub returns-clause-reads : goal.returns-clause-reads
returns-clause-reads g c =
    let sources = source_inputs (spec_of c.args.name) in
    let parts = part_inputs (code_of c.args.code.now).parts in
    let entry = (c.args.entry_name.now, entry_cap) ∷ [] in
    reads_same g.I.Inputs.state (sources ++ (parts ++ entry)) (sources ++ parts ++ entry) c.args.inputs.now c.posed_with.new.inputs _ (sym (append_assoc sources parts entry))
    (reads_both g.I.Inputs.state sources (parts ++ entry) c.args.inputs.now c.machine_of.new.inputs c.posed_with.new.inputs c.in_ok-spec.spec _ c.in_ok-spec.ensures.reads
    (reads_still g.I.Inputs.state (parts ++ entry) c.machine_of.new.inputs c.posed_with.new.inputs c.in_ok-posed.posed _ c.in_ok-posed.ensures.reads))

pub returns-clause-few : goal.returns-clause-few
returns-clause-few g c =
    subst (λ (spec : code.Spec). length (state_type (specification spec)).fields < 2 ^ 32) (sym c.in_ok-posed.ensures.same)
    (machine_few (Gave (g.I.Inputs.state c.args.inputs.now) (g.I.Inputs.state c.machine_of.new.inputs)) (spec_of c.args.name) (specification c.in_ok-spec.spec) c.in_ok-spec.ensures.gives)
