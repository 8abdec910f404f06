use Rattle.std.proofs.Common.{[], ◌∷◌, refl, rules}
use Rattle.std.specs.Prelude.{Ok, Err}
use Rattle.support_command_line.specs.Views.{code_of, spec_of}
use Rattle.semantics_values.specs.declared.entry.Entry as code
use Rattle.state_text.specs.Reading.{entry_of}
use Rattle.program_common.specs.Reading.{Gave}
use Rattle.program_common.specs.Steps.{goes_on}
use Rattle.program_common.proofs.Readings.{reads_both, reads_one, reads_still, reads_stopped}
use Rattle.program_common.proofs.Steps.{first_stops}
use Rattle.program_machine.specs.Entry.{entry_cap}
use Rattle.program_machine.specs.AnalysisEntry.{EntryOf}
use Rattle.program_machine.specs.Inputs.{CodedOf, coded_inputs}
use Rattle.program_machine.specs.Views.{code_inputs_of}
use Rattle.program_machine.proofs.InputChains.{both_stop, coded_still, entry_behind, entry_behind_wider, given_still, next_wider, with_entry}
use Rattle.program_machine.proofs.analysis_inputs.analysis_inputs_of.Goals as goal

pub returns-in_err-spec-clause-gives : goal.returns-in_err-spec-clause-gives
returns-in_err-spec-clause-gives g c =
    let reads = Gave (g.I.Inputs.state c.args.inputs.now) (g.I.Inputs.state c.code_inputs_of.new.inputs) in
    let gives = first_stops (CodedOf reads (spec_of c.args.name) (code_of c.args.code.now)) (λ coded. entry_behind c.args.entry_name.now coded reads) c.in_err-spec.field-0.0 c.in_err-spec.ensures.gives in
    search (rules, gives)

pub returns-in_err-entry-clause-gives : goal.returns-in_err-entry-clause-gives
returns-in_err-entry-clause-gives g c =
    let name = spec_of c.args.name in
    let code = code_of c.args.code.now in
    let entry = c.args.entry_name.now in
    let mid = g.I.Inputs.state c.code_inputs_of.new.inputs in
    let new = g.I.Inputs.state c.entry_of.new.inputs in
    let coded = code_inputs_of c.in_ok-spec.field-0 in
    let gives = both_stop (λ reads. CodedOf reads name code) (entry_behind entry) (g.I.Inputs.state c.args.inputs.now) mid new c.code_inputs_of.ensures.reads.kept c.in_ok-spec.ensures.reads.no_other_fault (coded_still name code) (entry_behind_wider entry)
    coded c.in_ok-spec.ensures.gives c.in_err-entry.field-0.0
    (first_stops (EntryOf (Gave mid new) coded.spec entry) (with_entry coded) c.in_err-entry.field-0.0 c.in_err-entry.ensures.gives) in
    search (rules, gives)

pub returns-in_err-entry-clause-reads : goal.returns-in_err-entry-clause-reads
returns-in_err-entry-clause-reads g c =
    let coded = coded_inputs (spec_of c.args.name) (code_of c.args.code.now) in
    let entry = (c.args.entry_name.now, entry_cap) ∷ [] in
    let read = reads_one g.I.Inputs.state {A = code.Entry} entry c.code_inputs_of.new.inputs c.entry_of.new.inputs (Err c.in_err-entry.field-0.0) c.entry_of.ensures.kept c.in_err-entry.ensures.no_other_fault c.entry_of.ensures.taken in
    reads_both g.I.Inputs.state coded entry c.args.inputs.now c.code_inputs_of.new.inputs c.entry_of.new.inputs c.in_ok-spec.field-0 _ c.in_ok-spec.ensures.reads
    (reads_stopped g.I.Inputs.state entry c.code_inputs_of.new.inputs c.entry_of.new.inputs c.in_err-entry.field-0.0 _ c.from_residual-in_err-entry.ensures read)

pub returns-clause-gives : goal.returns-clause-gives
returns-clause-gives g c =
    let name = spec_of c.args.name in
    let code = code_of c.args.code.now in
    let entry = c.args.entry_name.now in
    let old = g.I.Inputs.state c.args.inputs.now in
    let mid = g.I.Inputs.state c.code_inputs_of.new.inputs in
    let new = g.I.Inputs.state c.entry_of.new.inputs in
    let coded = code_inputs_of c.in_ok-spec.field-0 in
    let e = entry_of c.in_ok-entry.entry in
    goes_on
    (given_still (λ reads. CodedOf reads name code) (entry_behind entry) old mid new c.code_inputs_of.ensures.reads.kept c.in_ok-spec.ensures.reads.no_other_fault (coded_still name code) (entry_behind_wider entry) coded c.in_ok-spec.ensures.gives)
    (next_wider (λ reads. CodedOf reads name code) (entry_behind entry) old mid new c.code_inputs_of.ensures.reads.kept c.in_ok-spec.ensures.reads.no_other_fault (coded_still name code) (entry_behind_wider entry) coded c.in_ok-spec.ensures.gives
    (Ok (record { spec = coded.spec; image = coded.image; entry = e })) (goes_on c.in_ok-entry.ensures.gives refl))

pub returns-clause-reads : goal.returns-clause-reads
returns-clause-reads g c =
    let coded = coded_inputs (spec_of c.args.name) (code_of c.args.code.now) in
    let entry = (c.args.entry_name.now, entry_cap) ∷ [] in
    let read = reads_one g.I.Inputs.state entry c.code_inputs_of.new.inputs c.entry_of.new.inputs (Ok c.in_ok-entry.entry) c.entry_of.ensures.kept c.in_ok-entry.ensures.no_other_fault c.entry_of.ensures.taken in
    reads_both g.I.Inputs.state coded entry c.args.inputs.now c.code_inputs_of.new.inputs c.entry_of.new.inputs c.in_ok-spec.field-0 _ c.in_ok-spec.ensures.reads
    (reads_still g.I.Inputs.state entry c.code_inputs_of.new.inputs c.entry_of.new.inputs c.in_ok-entry.entry _ read)
