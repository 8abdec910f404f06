use Rattle.std.proofs.Common.{Global, ℕ, List, [], ◌∷◌, inr, rules, subst}
use Rattle.std.specs.Prelude.{Ok, Err, Vec}
use Rattle.support_command_line.specs.Views.{slice_of}
use Rattle.program_common.specs.Outcomes.{Gives, answer_of}
use Rattle.program_common.specs.Reading.{Gave}
use Rattle.program_common.proofs.Readings.{gave_later, gave_still, reads_both, reads_first, reads_one, reads_still, reads_stopped}
use Rattle.program_common.proofs.Steps.{first_stops, gives_next}
use Rattle.program_machine.specs.Inputs.{SliceInputs, SoughtOf, table_cap}
use Rattle.program_machine.specs.Views.{slice_inputs_of}
use Rattle.program_machine.proofs.InputChains.{both_give, both_stop, sought_still}
use Rattle.program_analyses.specs.Steps.{SliceOf, analyse_inputs}
use Rattle.program_analyses.specs.Work.{CheckTakes}
use Rattle.program_analyses.proofs.Chains.{table_behind, table_behind_wider}
use Rattle.program_analyses.proofs.slice.slice_request.Goals as goal

pub returns-in_err-sought-clause-gives : goal.returns-in_err-sought-clause-gives
returns-in_err-sought-clause-gives g c =
    let request = slice_of c.args.request.now in
    let asked = request.check.analysis in
    let reads = Gave (g.I.Inputs.state c.args.inputs.now) (g.I.Inputs.state c.slice_inputs_of.new.inputs) in
    let gives = first_stops (SoughtOf reads asked.spec request.cell asked.code asked.entry) (λ sought. table_behind request.check.table (SliceOf asked sought request.address) reads)
    c.in_err-sought.field-0.0 c.in_err-sought.ensures.gives in
    search (rules, gives)

pub returns-in_err-sought-clause-reads : goal.returns-in_err-sought-clause-reads
returns-in_err-sought-clause-reads g c =
    let request = slice_of c.args.request.now in
    let given = analyse_inputs request.check.analysis in
    let table = (request.check.table, table_cap) ∷ [] in
    reads_first g.I.Inputs.state given table c.args.inputs.now c.slice_inputs_of.new.inputs _
    (reads_stopped g.I.Inputs.state given c.args.inputs.now c.slice_inputs_of.new.inputs c.in_err-sought.field-0.0 _ c.from_residual.ensures c.in_err-sought.ensures.reads)

pub returns-in_err-table-clause-gives : goal.returns-in_err-table-clause-gives
returns-in_err-table-clause-gives g c =
    let request = slice_of c.args.request.now in
    let asked = request.check.analysis in
    let mid = g.I.Inputs.state c.slice_inputs_of.new.inputs in
    let new = g.I.Inputs.state c.read_input.new.inputs in
    let made = λ (sought : SliceInputs). SliceOf asked sought request.address in
    let gives = both_stop (λ reads. SoughtOf reads asked.spec request.cell asked.code asked.entry) (λ (sought : SliceInputs). table_behind request.check.table (made sought))
    (g.I.Inputs.state c.args.inputs.now) mid new c.slice_inputs_of.ensures.reads.kept c.in_ok-sought.ensures.reads.no_other_fault (sought_still asked.spec request.cell asked.code asked.entry) (λ sought. table_behind_wider request.check.table (made sought))
    (slice_inputs_of c.in_ok-sought.sought) c.in_ok-sought.ensures.gives c.in_err-table.field-0.0
    (first_stops (Gave mid new table_cap request.check.table) (made (slice_inputs_of c.in_ok-sought.sought)) c.in_err-table.field-0.0 c.in_err-table.ensures.gives) in
    search (rules, gives)

pub returns-in_err-table-clause-reads : goal.returns-in_err-table-clause-reads
returns-in_err-table-clause-reads g c =
    let request = slice_of c.args.request.now in
    let given = analyse_inputs request.check.analysis in
    let table = (request.check.table, table_cap) ∷ [] in
    let read = reads_one g.I.Inputs.state {A = Vec ℕ Global} table c.slice_inputs_of.new.inputs c.read_input.new.inputs (Err c.in_err-table.field-0.0) c.read_input.ensures.kept c.in_err-table.ensures.no_other_fault c.read_input.ensures.taken in
    reads_both g.I.Inputs.state given table c.args.inputs.now c.slice_inputs_of.new.inputs c.read_input.new.inputs c.in_ok-sought.sought _ c.in_ok-sought.ensures.reads
    (reads_stopped g.I.Inputs.state table c.slice_inputs_of.new.inputs c.read_input.new.inputs c.in_err-table.field-0.0 _ c.from_residual-in_err-table.ensures read)

pub returns-clause-gives : goal.returns-clause-gives
returns-clause-gives g c =
    let request = slice_of c.args.request.now in
    let asked = request.check.analysis in
    let mid = g.I.Inputs.state c.slice_inputs_of.new.inputs in
    let new = g.I.Inputs.state c.read_input.new.inputs in
    let made = λ (sought : SliceInputs). SliceOf asked sought request.address in
    let slice = subst (λ (bytes : List ℕ). Gives (made (slice_inputs_of c.in_ok-sought.sought) bytes) answer_of c.slice_over.result) c.deref.ensures.value c.slice_over.ensures.gives in
    both_give (λ reads. SoughtOf reads asked.spec request.cell asked.code asked.entry) (λ (sought : SliceInputs). table_behind request.check.table (made sought))
    (g.I.Inputs.state c.args.inputs.now) mid new c.slice_inputs_of.ensures.reads.kept c.in_ok-sought.ensures.reads.no_other_fault (sought_still asked.spec request.cell asked.code asked.entry) (λ sought. table_behind_wider request.check.table (made sought))
    (slice_inputs_of c.in_ok-sought.sought) c.in_ok-sought.ensures.gives answer_of c.slice_over.result
    (gives_next (Gave mid new table_cap request.check.table) (made (slice_inputs_of c.in_ok-sought.sought)) answer_of c.in_ok-table.table.items c.slice_over.result c.in_ok-table.ensures.gives slice)

pub returns-clause-reads : goal.returns-clause-reads
returns-clause-reads g c =
    let request = slice_of c.args.request.now in
    let given = analyse_inputs request.check.analysis in
    let table = (request.check.table, table_cap) ∷ [] in
    let read = reads_one g.I.Inputs.state table c.slice_inputs_of.new.inputs c.read_input.new.inputs (Ok c.in_ok-table.table) c.read_input.ensures.kept c.in_ok-table.ensures.no_other_fault c.read_input.ensures.taken in
    reads_both g.I.Inputs.state given table c.args.inputs.now c.slice_inputs_of.new.inputs c.read_input.new.inputs c.in_ok-sought.sought _ c.in_ok-sought.ensures.reads
    (reads_still g.I.Inputs.state table c.slice_inputs_of.new.inputs c.read_input.new.inputs c.in_ok-table.table c.slice_over.result read)

pub slice_over-requires-clause-posed : goal.slice_over-requires-clause-posed
slice_over-requires-clause-posed g c = record { accepted = c.in_ok-sought.ensures.accepted; some = c.in_ok-sought.ensures.machine; few = c.in_ok-sought.ensures.few; entry = c.in_ok-sought.ensures.entry }

pub returns-clause-work : goal.returns-clause-work
returns-clause-work g c =
    let request = slice_of c.args.request.now in
    let asked = request.check.analysis in
    let old = g.I.Inputs.state c.args.inputs.now in
    let mid = g.I.Inputs.state c.slice_inputs_of.new.inputs in
    let new = g.I.Inputs.state c.read_input.new.inputs in
    let sought = slice_inputs_of c.in_ok-sought.sought in
    let bytes = c.in_ok-table.table.items in
    let was_sought = sought_still asked.spec request.cell asked.code asked.entry (Gave old mid) (Gave old new) (gave_still old mid new) sought c.in_ok-sought.ensures.gives in
    let was_read = gave_later old mid new c.slice_inputs_of.ensures.reads.kept c.in_ok-sought.ensures.reads.no_other_fault table_cap request.check.table (Ok bytes) c.in_ok-table.ensures.gives in
    inr ((sought, bytes), (was_sought, was_read), subst (λ (text : List ℕ). CheckTakes asked sought.posed text c.args.steps.now c.slice_over.new.steps) c.deref.ensures.value c.slice_over.ensures.work)
