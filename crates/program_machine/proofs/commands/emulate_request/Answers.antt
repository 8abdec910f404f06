use Rattle.std.proofs.Common.{[], ◌∷◌, ◌++◌, rules}
use Rattle.std.specs.Prelude.{Ok, Err}
use Rattle.spec_ir.specs.Views.{specification}
use Rattle.semantics_values.specs.declared.value.State as code
use Rattle.semantics_values.specs.Views.{state}
use Rattle.support_command_line.specs.Views.{emulate_of}
use Rattle.program_common.specs.Reading.{Gave}
use Rattle.program_common.specs.Sources.{source_inputs}
use Rattle.program_common.proofs.Readings.{reads_both, reads_first, reads_one, reads_still, reads_stopped}
use Rattle.program_machine.specs.Code.{part_inputs}
use Rattle.program_machine.specs.Entry.{entry_cap}
use Rattle.program_machine.proofs.Chains.{no_machine}
use Rattle.program_machine.proofs.Several.{emulate_given, emulate_no_image, emulate_no_start}
use Rattle.program_machine.proofs.Typing.{start_typed}
use Rattle.program_machine.proofs.commands.emulate_request.Goals as goal

pub returns-in_err-spec-clause-gives : goal.returns-in_err-spec-clause-gives
returns-in_err-spec-clause-gives g c =
    let gives = no_machine (Gave (g.I.Inputs.state c.args.inputs.now) (g.I.Inputs.state c.machine_of.new.inputs)) (emulate_of c.args.request.now) c.in_err-spec.field-0.0 c.in_err-spec.ensures.gives in
    search (rules, gives)

pub returns-in_err-image-clause-gives : goal.returns-in_err-image-clause-gives
returns-in_err-image-clause-gives g c =
    let gives = emulate_no_image (g.I.Inputs.state c.args.inputs.now) (g.I.Inputs.state c.machine_of.new.inputs) (g.I.Inputs.state c.image_of.new.inputs) c.machine_of.ensures.reads.kept c.in_ok-spec.ensures.reads.no_other_fault
    (emulate_of c.args.request.now) (specification c.in_ok-spec.spec) c.in_err-image.field-0.0 c.in_ok-spec.ensures.gives c.in_err-image.ensures.gives in
    search (rules, gives)

pub returns-in_err-image-clause-reads : goal.returns-in_err-image-clause-reads
returns-in_err-image-clause-reads g c =
    let request = emulate_of c.args.request.now in
    let sources = source_inputs request.spec in
    let parts = part_inputs request.code.parts in
    let entry = (request.entry, entry_cap) ∷ [] in
    reads_first g.I.Inputs.state (sources ++ parts) entry c.args.inputs.now c.image_of.new.inputs _
    (reads_both g.I.Inputs.state sources parts c.args.inputs.now c.machine_of.new.inputs c.image_of.new.inputs c.in_ok-spec.spec _ c.in_ok-spec.ensures.reads
    (reads_stopped g.I.Inputs.state parts c.machine_of.new.inputs c.image_of.new.inputs c.in_err-image.field-0.0 _ c.from_residual-in_err-image.ensures c.in_err-image.ensures.reads))

pub returns-in_err-start-clause-gives : goal.returns-in_err-start-clause-gives
returns-in_err-start-clause-gives g c =
    let gives = emulate_no_start (g.I.Inputs.state c.args.inputs.now) (g.I.Inputs.state c.machine_of.new.inputs) (g.I.Inputs.state c.image_of.new.inputs) (g.I.Inputs.state c.start_of.new.inputs)
    c.machine_of.ensures.reads.kept c.in_ok-spec.ensures.reads.no_other_fault c.image_of.ensures.reads.kept c.in_ok-image.ensures.reads.no_other_fault
    (emulate_of c.args.request.now) (specification c.in_ok-spec.spec) c.in_ok-image.image c.in_ok-spec.ensures.gives c.in_ok-image.ensures.gives c.in_err-start.field-0.0 c.in_err-start.ensures.gives in
    search (rules, gives)

pub returns-in_err-start-clause-reads : goal.returns-in_err-start-clause-reads
returns-in_err-start-clause-reads g c =
    let request = emulate_of c.args.request.now in
    let sources = source_inputs request.spec in
    let parts = part_inputs request.code.parts in
    let entry = (request.entry, entry_cap) ∷ [] in
    let imaged = reads_both g.I.Inputs.state sources parts c.args.inputs.now c.machine_of.new.inputs c.image_of.new.inputs c.in_ok-spec.spec (Ok c.in_ok-image.image) c.in_ok-spec.ensures.reads c.in_ok-image.ensures.reads in
    let read = reads_one g.I.Inputs.state {A = code.State} entry c.image_of.new.inputs c.start_of.new.inputs (Err c.in_err-start.field-0.0) c.start_of.ensures.kept c.in_err-start.ensures.no_other_fault c.start_of.ensures.taken in
    reads_both g.I.Inputs.state (sources ++ parts) entry c.args.inputs.now c.image_of.new.inputs c.start_of.new.inputs c.in_ok-image.image _ imaged
    (reads_stopped g.I.Inputs.state entry c.image_of.new.inputs c.start_of.new.inputs c.in_err-start.field-0.0 _ c.from_residual-in_err-start.ensures read)

pub run_machine-requires-clause-typed : goal.run_machine-requires-clause-typed
run_machine-requires-clause-typed g c =
    start_typed (Gave (g.I.Inputs.state c.image_of.new.inputs) (g.I.Inputs.state c.start_of.new.inputs)) (specification c.in_ok-spec.spec) (emulate_of c.args.request.now).entry (state c.in_ok-start.start)
    c.in_ok-spec.ensures.accepted c.in_ok-start.ensures.gives

pub returns-in_err-run_machine-clause-reads : goal.returns-in_err-run_machine-clause-reads
returns-in_err-run_machine-clause-reads g c =
    let request = emulate_of c.args.request.now in
    let sources = source_inputs request.spec in
    let parts = part_inputs request.code.parts in
    let entry = (request.entry, entry_cap) ∷ [] in
    let imaged = reads_both g.I.Inputs.state sources parts c.args.inputs.now c.machine_of.new.inputs c.image_of.new.inputs c.in_ok-spec.spec (Ok c.in_ok-image.image) c.in_ok-spec.ensures.reads c.in_ok-image.ensures.reads in
    let read = reads_one g.I.Inputs.state entry c.image_of.new.inputs c.start_of.new.inputs (Ok c.in_ok-start.start) c.start_of.ensures.kept c.in_ok-start.ensures.no_other_fault c.start_of.ensures.taken in
    reads_both g.I.Inputs.state (sources ++ parts) entry c.args.inputs.now c.image_of.new.inputs c.start_of.new.inputs c.in_ok-image.image _ imaged
    (reads_still g.I.Inputs.state entry c.image_of.new.inputs c.start_of.new.inputs c.in_ok-start.start _ read)

pub returns-clause-gives : goal.returns-clause-gives
returns-clause-gives g c =
    emulate_given (g.I.Inputs.state c.args.inputs.now) (g.I.Inputs.state c.machine_of.new.inputs) (g.I.Inputs.state c.image_of.new.inputs) (g.I.Inputs.state c.start_of.new.inputs)
    c.machine_of.ensures.reads.kept c.in_ok-spec.ensures.reads.no_other_fault c.image_of.ensures.reads.kept c.in_ok-image.ensures.reads.no_other_fault
    (emulate_of c.args.request.now) (specification c.in_ok-spec.spec) c.in_ok-image.image c.in_ok-spec.ensures.gives c.in_ok-image.ensures.gives
    (state c.in_ok-start.start) _ c.in_ok-start.ensures.gives c.in_ok-run_machine.ensures

pub returns-clause-reads : goal.returns-clause-reads
returns-clause-reads g c =
    let request = emulate_of c.args.request.now in
    let sources = source_inputs request.spec in
    let parts = part_inputs request.code.parts in
    let entry = (request.entry, entry_cap) ∷ [] in
    let imaged = reads_both g.I.Inputs.state sources parts c.args.inputs.now c.machine_of.new.inputs c.image_of.new.inputs c.in_ok-spec.spec (Ok c.in_ok-image.image) c.in_ok-spec.ensures.reads c.in_ok-image.ensures.reads in
    let read = reads_one g.I.Inputs.state entry c.image_of.new.inputs c.start_of.new.inputs (Ok c.in_ok-start.start) c.start_of.ensures.kept c.in_ok-start.ensures.no_other_fault c.start_of.ensures.taken in
    reads_both g.I.Inputs.state (sources ++ parts) entry c.args.inputs.now c.image_of.new.inputs c.start_of.new.inputs c.in_ok-image.image _ imaged
    (reads_still g.I.Inputs.state entry c.image_of.new.inputs c.start_of.new.inputs c.in_ok-start.start _ read)

pub returns-in_err-spec-clause-reads : goal.returns-in_err-spec-clause-reads
returns-in_err-spec-clause-reads g c =
    let request = emulate_of c.args.request.now in
    let sources = source_inputs request.spec in
    let parts = part_inputs request.code.parts in
    reads_first g.I.Inputs.state (sources ++ parts) ((request.entry, entry_cap) ∷ []) c.args.inputs.now c.machine_of.new.inputs _
    (reads_first g.I.Inputs.state sources parts c.args.inputs.now c.machine_of.new.inputs _
    (reads_stopped g.I.Inputs.state sources c.args.inputs.now c.machine_of.new.inputs c.in_err-spec.field-0.0 _ c.from_residual.ensures c.in_err-spec.ensures.reads))
