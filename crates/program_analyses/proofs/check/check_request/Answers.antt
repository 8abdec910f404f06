use Rattle.std.proofs.Common.{Global, ℕ, List, [], ◌∷◌, inr, rules, subst}
use Rattle.std.specs.Prelude.{Ok, Err, Vec}
use Rattle.support_command_line.specs.Views.{check_of}
use Rattle.program_common.specs.Outcomes.{Gives, answer_of}
use Rattle.program_common.specs.Reading.{Gave}
use Rattle.program_common.proofs.Readings.{gave_later, gave_still, reads_both, reads_first, reads_one, reads_still, reads_stopped}
use Rattle.program_common.proofs.Steps.{first_stops, gives_next}
use Rattle.program_machine.specs.Inputs.{AnalysisInputs, PosedOf, table_cap}
use Rattle.program_machine.specs.Views.{analysis_inputs_of}
use Rattle.program_machine.proofs.InputChains.{both_give, both_stop, posed_still}
use Rattle.program_analyses.specs.Steps.{CheckOf, analyse_inputs}
use Rattle.program_analyses.specs.Work.{CheckTakes}
use Rattle.program_analyses.proofs.Chains.{table_behind, table_behind_wider}
use Rattle.program_analyses.proofs.check.check_request.Goals as goal

pub returns-in_err-posed-clause-gives : goal.returns-in_err-posed-clause-gives
returns-in_err-posed-clause-gives g c =
    let request = check_of c.args.request.now in
    let asked = request.analysis in
    let reads = Gave (g.I.Inputs.state c.args.inputs.now) (g.I.Inputs.state c.analysis_inputs_of.new.inputs) in
    let gives = first_stops (PosedOf reads asked.spec asked.code asked.entry) (λ posed. table_behind request.table (CheckOf asked posed) reads)
    c.in_err-posed.field-0.0 c.in_err-posed.ensures.gives in
    search (rules, gives)

pub returns-in_err-posed-clause-reads : goal.returns-in_err-posed-clause-reads
returns-in_err-posed-clause-reads g c =
    let request = check_of c.args.request.now in
    let given = analyse_inputs request.analysis in
    let table = (request.table, table_cap) ∷ [] in
    reads_first g.I.Inputs.state given table c.args.inputs.now c.analysis_inputs_of.new.inputs _
    (reads_stopped g.I.Inputs.state given c.args.inputs.now c.analysis_inputs_of.new.inputs c.in_err-posed.field-0.0 _ c.from_residual.ensures c.in_err-posed.ensures.reads)

pub returns-in_err-table-clause-gives : goal.returns-in_err-table-clause-gives
returns-in_err-table-clause-gives g c =
    let request = check_of c.args.request.now in
    let asked = request.analysis in
    let mid = g.I.Inputs.state c.analysis_inputs_of.new.inputs in
    let new = g.I.Inputs.state c.read_input.new.inputs in
    let gives = both_stop (λ reads. PosedOf reads asked.spec asked.code asked.entry) (λ (posed : AnalysisInputs). table_behind request.table (CheckOf asked posed))
    (g.I.Inputs.state c.args.inputs.now) mid new c.analysis_inputs_of.ensures.reads.kept c.in_ok-posed.ensures.reads.no_other_fault (posed_still asked.spec asked.code asked.entry) (λ posed. table_behind_wider request.table (CheckOf asked posed))
    (analysis_inputs_of c.in_ok-posed.posed) c.in_ok-posed.ensures.gives c.in_err-table.field-0.0
    (first_stops (Gave mid new table_cap request.table) (CheckOf asked (analysis_inputs_of c.in_ok-posed.posed)) c.in_err-table.field-0.0 c.in_err-table.ensures.gives) in
    search (rules, gives)

pub returns-in_err-table-clause-reads : goal.returns-in_err-table-clause-reads
returns-in_err-table-clause-reads g c =
    let request = check_of c.args.request.now in
    let given = analyse_inputs request.analysis in
    let table = (request.table, table_cap) ∷ [] in
    let read = reads_one g.I.Inputs.state {A = Vec ℕ Global} table c.analysis_inputs_of.new.inputs c.read_input.new.inputs (Err c.in_err-table.field-0.0) c.read_input.ensures.kept c.in_err-table.ensures.no_other_fault c.read_input.ensures.taken in
    reads_both g.I.Inputs.state given table c.args.inputs.now c.analysis_inputs_of.new.inputs c.read_input.new.inputs c.in_ok-posed.posed _ c.in_ok-posed.ensures.reads
    (reads_stopped g.I.Inputs.state table c.analysis_inputs_of.new.inputs c.read_input.new.inputs c.in_err-table.field-0.0 _ c.from_residual-in_err-table.ensures read)

pub returns-clause-gives : goal.returns-clause-gives
returns-clause-gives g c =
    let request = check_of c.args.request.now in
    let asked = request.analysis in
    let mid = g.I.Inputs.state c.analysis_inputs_of.new.inputs in
    let new = g.I.Inputs.state c.read_input.new.inputs in
    let verdict = subst (λ (bytes : List ℕ). Gives (CheckOf asked (analysis_inputs_of c.in_ok-posed.posed) bytes) answer_of c.verdict_of.result) c.deref.ensures.value c.verdict_of.ensures.gives in
    both_give (λ reads. PosedOf reads asked.spec asked.code asked.entry) (λ (posed : AnalysisInputs). table_behind request.table (CheckOf asked posed))
    (g.I.Inputs.state c.args.inputs.now) mid new c.analysis_inputs_of.ensures.reads.kept c.in_ok-posed.ensures.reads.no_other_fault (posed_still asked.spec asked.code asked.entry) (λ posed. table_behind_wider request.table (CheckOf asked posed))
    (analysis_inputs_of c.in_ok-posed.posed) c.in_ok-posed.ensures.gives answer_of c.verdict_of.result
    (gives_next (Gave mid new table_cap request.table) (CheckOf asked (analysis_inputs_of c.in_ok-posed.posed)) answer_of c.in_ok-table.table.items c.verdict_of.result c.in_ok-table.ensures.gives verdict)

pub returns-clause-reads : goal.returns-clause-reads
returns-clause-reads g c =
    let request = check_of c.args.request.now in
    let given = analyse_inputs request.analysis in
    let table = (request.table, table_cap) ∷ [] in
    let read = reads_one g.I.Inputs.state table c.analysis_inputs_of.new.inputs c.read_input.new.inputs (Ok c.in_ok-table.table) c.read_input.ensures.kept c.in_ok-table.ensures.no_other_fault c.read_input.ensures.taken in
    reads_both g.I.Inputs.state given table c.args.inputs.now c.analysis_inputs_of.new.inputs c.read_input.new.inputs c.in_ok-posed.posed _ c.in_ok-posed.ensures.reads
    (reads_still g.I.Inputs.state table c.analysis_inputs_of.new.inputs c.read_input.new.inputs c.in_ok-table.table c.verdict_of.result read)

pub verdict_of-requires-clause-posed : goal.verdict_of-requires-clause-posed
verdict_of-requires-clause-posed g c = record { accepted = c.in_ok-posed.ensures.accepted; some = c.in_ok-posed.ensures.machine; few = c.in_ok-posed.ensures.few; entry = c.in_ok-posed.ensures.entry }

pub returns-clause-work : goal.returns-clause-work
returns-clause-work g c =
    let request = check_of c.args.request.now in
    let asked = request.analysis in
    let old = g.I.Inputs.state c.args.inputs.now in
    let mid = g.I.Inputs.state c.analysis_inputs_of.new.inputs in
    let new = g.I.Inputs.state c.read_input.new.inputs in
    let posed = analysis_inputs_of c.in_ok-posed.posed in
    let bytes = c.in_ok-table.table.items in
    let was_posed = posed_still asked.spec asked.code asked.entry (Gave old mid) (Gave old new) (gave_still old mid new) posed c.in_ok-posed.ensures.gives in
    let was_read = gave_later old mid new c.analysis_inputs_of.ensures.reads.kept c.in_ok-posed.ensures.reads.no_other_fault table_cap request.table (Ok bytes) c.in_ok-table.ensures.gives in
    inr ((posed, bytes), (was_posed, was_read), subst (λ (text : List ℕ). CheckTakes asked posed text c.args.steps.now c.verdict_of.new.steps) c.deref.ensures.value c.verdict_of.ensures.work)
