use Rattle.std.proofs.Common.{refl, rules}
use Rattle.std.specs.Prelude.{Ok}
use Rattle.support_command_line.specs.Views.{code_of, spec_of}
use Rattle.spec_ir.specs.Views.{specification}
use Rattle.program_common.specs.Reading.{Gave}
use Rattle.program_common.specs.Sources.{source_inputs}
use Rattle.program_common.specs.Steps.{goes_on}
use Rattle.program_common.proofs.Readings.{reads_both, reads_first, reads_still, reads_stopped}
use Rattle.program_common.proofs.Steps.{first_stops}
use Rattle.program_machine.specs.Code.{CodeOf, part_inputs}
use Rattle.program_machine.specs.Machines.{MachineOf}
use Rattle.program_machine.proofs.InputChains.{behind_wider, both_stop, code_behind, given_still, machine, machine_is_still, next_wider, with_image}
use Rattle.program_machine.proofs.Problems.{machine_few}
use Rattle.program_machine.proofs.code_inputs.code_inputs_of.Goals as goal

pub returns-in_err-spec-clause-gives : goal.returns-in_err-spec-clause-gives
returns-in_err-spec-clause-gives g c =
    let reads = Gave (g.I.Inputs.state c.args.inputs.now) (g.I.Inputs.state c.machine_of.new.inputs) in
    let gives = first_stops (MachineOf reads (spec_of c.args.name)) (λ spec. code_behind (code_of c.args.code.now) spec reads) c.in_err-spec.field-0.0 c.in_err-spec.ensures.gives in
    search (rules, gives)

pub returns-in_err-spec-clause-reads : goal.returns-in_err-spec-clause-reads
returns-in_err-spec-clause-reads g c =
    let sources = source_inputs (spec_of c.args.name) in
    let parts = part_inputs (code_of c.args.code.now).parts in
    reads_first g.I.Inputs.state sources parts c.args.inputs.now c.machine_of.new.inputs _
    (reads_stopped g.I.Inputs.state sources c.args.inputs.now c.machine_of.new.inputs c.in_err-spec.field-0.0 _ c.from_residual.ensures c.in_err-spec.ensures.reads)

pub returns-in_err-image-clause-gives : goal.returns-in_err-image-clause-gives
returns-in_err-image-clause-gives g c =
    let name = spec_of c.args.name in
    let code = code_of c.args.code.now in
    let mid = g.I.Inputs.state c.machine_of.new.inputs in
    let new = g.I.Inputs.state c.image_of.new.inputs in
    let gives = both_stop (machine name) (code_behind code) (g.I.Inputs.state c.args.inputs.now) mid new c.machine_of.ensures.reads.kept c.in_ok-spec.ensures.reads.no_other_fault (machine_is_still name) (behind_wider code)
    (specification c.in_ok-spec.spec) c.in_ok-spec.ensures.gives c.in_err-image.field-0.0
    (first_stops (CodeOf (Gave mid new) code) (with_image (specification c.in_ok-spec.spec)) c.in_err-image.field-0.0 c.in_err-image.ensures.gives) in
    search (rules, gives)

pub returns-in_err-image-clause-reads : goal.returns-in_err-image-clause-reads
returns-in_err-image-clause-reads g c =
    let sources = source_inputs (spec_of c.args.name) in
    let parts = part_inputs (code_of c.args.code.now).parts in
    reads_both g.I.Inputs.state sources parts c.args.inputs.now c.machine_of.new.inputs c.image_of.new.inputs c.in_ok-spec.spec _ c.in_ok-spec.ensures.reads
    (reads_stopped g.I.Inputs.state parts c.machine_of.new.inputs c.image_of.new.inputs c.in_err-image.field-0.0 _ c.from_residual-in_err-image.ensures c.in_err-image.ensures.reads)

pub returns-clause-gives : goal.returns-clause-gives
returns-clause-gives g c =
    let name = spec_of c.args.name in
    let code = code_of c.args.code.now in
    let old = g.I.Inputs.state c.args.inputs.now in
    let mid = g.I.Inputs.state c.machine_of.new.inputs in
    let new = g.I.Inputs.state c.image_of.new.inputs in
    let spec = specification c.in_ok-spec.spec in
    goes_on
    (given_still (machine name) (code_behind code) old mid new c.machine_of.ensures.reads.kept c.in_ok-spec.ensures.reads.no_other_fault (machine_is_still name) (behind_wider code) spec c.in_ok-spec.ensures.gives)
    (next_wider (machine name) (code_behind code) old mid new c.machine_of.ensures.reads.kept c.in_ok-spec.ensures.reads.no_other_fault (machine_is_still name) (behind_wider code) spec c.in_ok-spec.ensures.gives
    (Ok (record { spec = spec; image = c.in_ok-image.image })) (goes_on c.in_ok-image.ensures.gives refl))

pub returns-clause-reads : goal.returns-clause-reads
returns-clause-reads g c =
    let sources = source_inputs (spec_of c.args.name) in
    let parts = part_inputs (code_of c.args.code.now).parts in
    reads_both g.I.Inputs.state sources parts c.args.inputs.now c.machine_of.new.inputs c.image_of.new.inputs c.in_ok-spec.spec _ c.in_ok-spec.ensures.reads
    (reads_still g.I.Inputs.state parts c.machine_of.new.inputs c.image_of.new.inputs c.in_ok-image.image _ c.in_ok-image.ensures.reads)

pub returns-clause-few : goal.returns-clause-few
returns-clause-few g c = machine_few (Gave (g.I.Inputs.state c.args.inputs.now) (g.I.Inputs.state c.machine_of.new.inputs)) (spec_of c.args.name) (specification c.in_ok-spec.spec) c.in_ok-spec.ensures.gives
