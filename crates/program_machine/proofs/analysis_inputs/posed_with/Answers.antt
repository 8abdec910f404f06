use Rattle.std.proofs.Common.{[], ◌∷◌, refl, rules}
use Rattle.std.specs.Prelude.{Ok, Err}
use Rattle.support_command_line.specs.Views.{code_of}
use Rattle.spec_ir.specs.Views.{specification}
use Rattle.code_image.specs.Image.{Image}
use Rattle.semantics_values.specs.declared.entry.Entry as code
use Rattle.state_text.specs.Reading.{entry_of}
use Rattle.program_common.specs.Reading.{Gave}
use Rattle.program_common.specs.Steps.{goes_on}
use Rattle.program_common.proofs.Readings.{reads_both, reads_first, reads_one, reads_still, reads_stopped}
use Rattle.program_common.proofs.Steps.{first_stops}
use Rattle.program_machine.specs.Code.{CodeOf, part_inputs}
use Rattle.program_machine.specs.Entry.{entry_cap}
use Rattle.program_machine.specs.AnalysisEntry.{EntryOf}
use Rattle.program_machine.specs.Inputs.{PosedWith}
use Rattle.program_machine.specs.Views.{analysis_inputs_of}
use Rattle.program_machine.proofs.InputGiving.{passed_on}
use Rattle.program_machine.proofs.InputChains.{both_stop, code_is_still, entry_behind_wider, entry_with, given_still, next_wider, with_entry}
use Rattle.program_machine.proofs.analysis_inputs.posed_with.Goals as goal

pub returns-in_err-image-clause-gives : goal.returns-in_err-image-clause-gives
returns-in_err-image-clause-gives g c =
    let code = code_of c.args.code.now in
    let reads = Gave (g.I.Inputs.state c.args.inputs.now) (g.I.Inputs.state c.image_of.new.inputs) in
    let gives = first_stops (CodeOf reads code) (λ image. entry_with code c.args.entry_name.now (specification c.args.spec) image reads) c.in_err-image.field-0.0 c.in_err-image.ensures.gives in
    passed_on (PosedWith reads (specification c.args.spec) code c.args.entry_name.now) analysis_inputs_of c.in_err-image.field-0.0 c.from_residual.result c.from_residual.ensures gives

pub returns-in_err-image-clause-reads : goal.returns-in_err-image-clause-reads
returns-in_err-image-clause-reads g c =
    let parts = part_inputs (code_of c.args.code.now).parts in
    let entry = (c.args.entry_name.now, entry_cap) ∷ [] in
    reads_first g.I.Inputs.state parts entry c.args.inputs.now c.image_of.new.inputs _
    (reads_stopped g.I.Inputs.state parts c.args.inputs.now c.image_of.new.inputs c.in_err-image.field-0.0 _ c.from_residual.ensures c.in_err-image.ensures.reads)

pub returns-in_err-entry-clause-gives : goal.returns-in_err-entry-clause-gives
returns-in_err-entry-clause-gives g c =
    let spec = specification c.args.spec in
    let code = code_of c.args.code.now in
    let entry = c.args.entry_name.now in
    let mid = g.I.Inputs.state c.image_of.new.inputs in
    let new = g.I.Inputs.state c.entry_of.new.inputs in
    let image = c.in_ok-image.image in
    let gives = both_stop (λ reads. CodeOf reads code) (entry_with code entry spec) (g.I.Inputs.state c.args.inputs.now) mid new c.image_of.ensures.reads.kept c.in_ok-image.ensures.reads.no_other_fault (code_is_still code)
    (λ (i : Image). entry_behind_wider entry (record { spec = spec; image = i })) image c.in_ok-image.ensures.gives c.in_err-entry.field-0.0
    (first_stops (EntryOf (Gave mid new) spec entry) (with_entry (record { spec = spec; image = image })) c.in_err-entry.field-0.0 c.in_err-entry.ensures.gives) in
    search (rules, gives)

pub returns-in_err-entry-clause-reads : goal.returns-in_err-entry-clause-reads
returns-in_err-entry-clause-reads g c =
    let parts = part_inputs (code_of c.args.code.now).parts in
    let entry = (c.args.entry_name.now, entry_cap) ∷ [] in
    let read = reads_one g.I.Inputs.state {A = code.Entry} entry c.image_of.new.inputs c.entry_of.new.inputs (Err c.in_err-entry.field-0.0) c.entry_of.ensures.kept c.in_err-entry.ensures.no_other_fault c.entry_of.ensures.taken in
    reads_both g.I.Inputs.state parts entry c.args.inputs.now c.image_of.new.inputs c.entry_of.new.inputs c.in_ok-image.image _ c.in_ok-image.ensures.reads
    (reads_stopped g.I.Inputs.state entry c.image_of.new.inputs c.entry_of.new.inputs c.in_err-entry.field-0.0 _ c.from_residual-in_err-entry.ensures read)

pub returns-clause-gives : goal.returns-clause-gives
returns-clause-gives g c =
    let spec = specification c.args.spec in
    let code = code_of c.args.code.now in
    let entry = c.args.entry_name.now in
    let old = g.I.Inputs.state c.args.inputs.now in
    let mid = g.I.Inputs.state c.image_of.new.inputs in
    let new = g.I.Inputs.state c.entry_of.new.inputs in
    let image = c.in_ok-image.image in
    let wider = λ (i : Image). entry_behind_wider entry (record { spec = spec; image = i }) in
    goes_on
    (given_still (λ reads. CodeOf reads code) (entry_with code entry spec) old mid new c.image_of.ensures.reads.kept c.in_ok-image.ensures.reads.no_other_fault (code_is_still code) wider image c.in_ok-image.ensures.gives)
    (next_wider (λ reads. CodeOf reads code) (entry_with code entry spec) old mid new c.image_of.ensures.reads.kept c.in_ok-image.ensures.reads.no_other_fault (code_is_still code) wider image c.in_ok-image.ensures.gives
    (Ok (record { spec = spec; image = image; entry = entry_of c.in_ok-entry.entry })) (goes_on c.in_ok-entry.ensures.gives refl))

pub returns-clause-reads : goal.returns-clause-reads
returns-clause-reads g c =
    let parts = part_inputs (code_of c.args.code.now).parts in
    let entry = (c.args.entry_name.now, entry_cap) ∷ [] in
    let read = reads_one g.I.Inputs.state entry c.image_of.new.inputs c.entry_of.new.inputs (Ok c.in_ok-entry.entry) c.entry_of.ensures.kept c.in_ok-entry.ensures.no_other_fault c.entry_of.ensures.taken in
    reads_both g.I.Inputs.state parts entry c.args.inputs.now c.image_of.new.inputs c.entry_of.new.inputs c.in_ok-image.image _ c.in_ok-image.ensures.reads
    (reads_still g.I.Inputs.state entry c.image_of.new.inputs c.entry_of.new.inputs c.in_ok-entry.entry _ read)
