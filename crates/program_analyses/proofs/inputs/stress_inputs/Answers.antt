use Rattle.std.proofs.Common.{rules}
use Rattle.spec_ir.specs.Views.{specification}
use Rattle.support_command_line.specs.Views.{stress_of}
use Rattle.state_text.specs.Reading.{entry_of}
use Rattle.program_analyses.proofs.Giving.{all_made, no_entry_made, no_image, no_spec}
use Rattle.program_analyses.proofs.inputs.stress_inputs.Goals as goal

pub returns-in_err-spec-clause-gives : goal.returns-in_err-spec-clause-gives
returns-in_err-spec-clause-gives c =
    let gives = no_spec (stress_of c.args.request) c.in_err-spec.field-0.0 c.in_err-spec.ensures.gives in
    search (rules, gives)

pub returns-in_err-image-clause-gives : goal.returns-in_err-image-clause-gives
returns-in_err-image-clause-gives c =
    let gives = no_image (stress_of c.args.request) (specification c.in_ok-spec.spec) c.in_err-image.field-0.0 c.in_ok-spec.ensures.gives c.in_err-image.ensures in
    search (rules, gives)

pub returns-in_err-entry-clause-gives : goal.returns-in_err-entry-clause-gives
returns-in_err-entry-clause-gives c =
    let gives = no_entry_made (stress_of c.args.request) (specification c.in_ok-spec.spec) c.in_ok-image.image c.in_err-entry.field-0.0 c.in_ok-spec.ensures.gives c.in_ok-image.ensures c.in_err-entry.ensures.gives in
    search (rules, gives)

pub returns-clause-gives : goal.returns-clause-gives
returns-clause-gives c =
    all_made (stress_of c.args.request) (specification c.in_ok-spec.spec) c.in_ok-image.image (entry_of c.in_ok-entry.entry) c.in_ok-spec.ensures.gives c.in_ok-image.ensures c.in_ok-entry.ensures.gives
