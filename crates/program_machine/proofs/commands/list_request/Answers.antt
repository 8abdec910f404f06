use Rattle.std.proofs.Common.{rules}
use Rattle.spec_ir.specs.Views.{specification}
use Rattle.support_command_line.specs.Views.{list_of}
use Rattle.program_common.specs.Reading.{Gave}
use Rattle.program_common.specs.Sources.{source_inputs}
use Rattle.program_common.proofs.Readings.{reads_both, reads_still, reads_stopped}
use Rattle.program_machine.specs.Code.{part_inputs}
use Rattle.program_machine.proofs.Chains.{no_listed_machine}
use Rattle.program_machine.proofs.Several.{list_given, list_no_image}
use Rattle.program_machine.proofs.commands.list_request.Goals as goal

pub returns-in_err-spec-clause-gives : goal.returns-in_err-spec-clause-gives
returns-in_err-spec-clause-gives g c =
    let gives = no_listed_machine (Gave (g.I.Inputs.state c.args.inputs.now) (g.I.Inputs.state c.machine_of.new.inputs)) (list_of c.args.request.now) c.in_err-spec.field-0.0 c.in_err-spec.ensures.gives in
    search (rules, gives)

pub returns-in_err-image-clause-gives : goal.returns-in_err-image-clause-gives
returns-in_err-image-clause-gives g c =
    let gives = list_no_image (g.I.Inputs.state c.args.inputs.now) (g.I.Inputs.state c.machine_of.new.inputs) (g.I.Inputs.state c.image_of.new.inputs) c.machine_of.ensures.reads.kept c.in_ok-spec.ensures.reads.no_other_fault
    (list_of c.args.request.now) (specification c.in_ok-spec.spec) c.in_err-image.field-0.0 c.in_ok-spec.ensures.gives c.in_err-image.ensures.gives in
    search (rules, gives)

pub returns-in_err-image-clause-reads : goal.returns-in_err-image-clause-reads
returns-in_err-image-clause-reads g c =
    let request = list_of c.args.request.now in
    let sources = source_inputs request.spec in
    let parts = part_inputs request.code.parts in
    reads_both g.I.Inputs.state sources parts c.args.inputs.now c.machine_of.new.inputs c.image_of.new.inputs c.in_ok-spec.spec _ c.in_ok-spec.ensures.reads
    (reads_stopped g.I.Inputs.state parts c.machine_of.new.inputs c.image_of.new.inputs c.in_err-image.field-0.0 _ c.from_residual-in_err-image.ensures c.in_err-image.ensures.reads)

pub returns-in_err-listing-clause-reads : goal.returns-in_err-listing-clause-reads
returns-in_err-listing-clause-reads g c =
    let request = list_of c.args.request.now in
    let sources = source_inputs request.spec in
    let parts = part_inputs request.code.parts in
    reads_both g.I.Inputs.state sources parts c.args.inputs.now c.machine_of.new.inputs c.image_of.new.inputs c.in_ok-spec.spec _ c.in_ok-spec.ensures.reads
    (reads_still g.I.Inputs.state parts c.machine_of.new.inputs c.image_of.new.inputs c.in_ok-image.image _ c.in_ok-image.ensures.reads)

pub returns-clause-gives : goal.returns-clause-gives
returns-clause-gives g c =
    list_given (g.I.Inputs.state c.args.inputs.now) (g.I.Inputs.state c.machine_of.new.inputs) (g.I.Inputs.state c.image_of.new.inputs) c.machine_of.ensures.reads.kept c.in_ok-spec.ensures.reads.no_other_fault
    (list_of c.args.request.now) (specification c.in_ok-spec.spec) c.in_ok-image.image _ c.in_ok-spec.ensures.gives c.in_ok-image.ensures.gives c.in_ok-listing.ensures

pub returns-clause-reads : goal.returns-clause-reads
returns-clause-reads g c =
    let request = list_of c.args.request.now in
    let sources = source_inputs request.spec in
    let parts = part_inputs request.code.parts in
    reads_both g.I.Inputs.state sources parts c.args.inputs.now c.machine_of.new.inputs c.image_of.new.inputs c.in_ok-spec.spec _ c.in_ok-spec.ensures.reads
    (reads_still g.I.Inputs.state parts c.machine_of.new.inputs c.image_of.new.inputs c.in_ok-image.image _ c.in_ok-image.ensures.reads)
