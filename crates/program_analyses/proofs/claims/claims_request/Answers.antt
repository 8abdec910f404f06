use Rattle.std.proofs.Common.{Global, ℕ, List, [], ◌∷◌, ◌++◌, inr, rules, subst}
use Rattle.std.specs.Prelude.{Ok, Err, Vec}
use Rattle.support_command_line.specs.Views.{claims_of}
use Rattle.program_common.specs.Outcomes.{Gives, answer_of}
use Rattle.program_common.specs.Reading.{Gave}
use Rattle.program_common.proofs.Readings.{gave_later, gave_still, reads_both, reads_first, reads_one, reads_still, reads_stopped}
use Rattle.program_common.proofs.Steps.{first_stops, gives_next}
use Rattle.program_machine.specs.Inputs.{AnalysisInputs, PosedOf, claims_cap, table_cap}
use Rattle.program_machine.specs.Views.{analysis_inputs_of}
use Rattle.program_machine.proofs.InputChains.{both_give, both_stop, input, input_still, posed_still}
use Rattle.program_analyses.specs.Steps.{ClaimsOf, analyse_inputs}
use Rattle.program_analyses.specs.Work.{CheckTakes}
use Rattle.program_analyses.proofs.Chains.{both_behind, both_behind_wider, claims_behind, claims_behind_wider}
use Rattle.program_analyses.proofs.claims.claims_request.Goals as goal

pub returns-in_err-posed-clause-gives : goal.returns-in_err-posed-clause-gives
returns-in_err-posed-clause-gives g c =
    let request = claims_of c.args.request.now in
    let asked = request.check.analysis in
    let reads = Gave (g.I.Inputs.state c.args.inputs.now) (g.I.Inputs.state c.analysis_inputs_of.new.inputs) in
    let gives = first_stops (PosedOf reads asked.spec asked.code asked.entry) (λ posed. both_behind request.check.table request.claims (ClaimsOf asked posed) reads)
    c.in_err-posed.field-0.0 c.in_err-posed.ensures.gives in
    search (rules, gives)

pub returns-in_err-posed-clause-reads : goal.returns-in_err-posed-clause-reads
returns-in_err-posed-clause-reads g c =
    let request = claims_of c.args.request.now in
    let given = analyse_inputs request.check.analysis in
    let table = (request.check.table, table_cap) ∷ [] in
    let claims = (request.claims, claims_cap) ∷ [] in
    reads_first g.I.Inputs.state (given ++ table) claims c.args.inputs.now c.analysis_inputs_of.new.inputs _
    (reads_first g.I.Inputs.state given table c.args.inputs.now c.analysis_inputs_of.new.inputs _
    (reads_stopped g.I.Inputs.state given c.args.inputs.now c.analysis_inputs_of.new.inputs c.in_err-posed.field-0.0 _ c.from_residual.ensures c.in_err-posed.ensures.reads))

pub returns-in_err-table-clause-gives : goal.returns-in_err-table-clause-gives
returns-in_err-table-clause-gives g c =
    let request = claims_of c.args.request.now in
    let asked = request.check.analysis in
    let mid = g.I.Inputs.state c.analysis_inputs_of.new.inputs in
    let new = g.I.Inputs.state c.read_input.new.inputs in
    let posed = analysis_inputs_of c.in_ok-posed.posed in
    let gives = both_stop (λ reads. PosedOf reads asked.spec asked.code asked.entry) (λ (p : AnalysisInputs). both_behind request.check.table request.claims (ClaimsOf asked p))
    (g.I.Inputs.state c.args.inputs.now) mid new c.analysis_inputs_of.ensures.reads.kept c.in_ok-posed.ensures.reads.no_other_fault (posed_still asked.spec asked.code asked.entry) (λ p. both_behind_wider request.check.table request.claims (ClaimsOf asked p))
    posed c.in_ok-posed.ensures.gives c.in_err-table.field-0.0
    (first_stops (Gave mid new table_cap request.check.table) (λ bytes. claims_behind request.claims (ClaimsOf asked posed bytes) (Gave mid new)) c.in_err-table.field-0.0 c.in_err-table.ensures.gives) in
    search (rules, gives)

pub returns-in_err-table-clause-reads : goal.returns-in_err-table-clause-reads
returns-in_err-table-clause-reads g c =
    let request = claims_of c.args.request.now in
    let given = analyse_inputs request.check.analysis in
    let table = (request.check.table, table_cap) ∷ [] in
    let claims = (request.claims, claims_cap) ∷ [] in
    let read = reads_one g.I.Inputs.state {A = Vec ℕ Global} table c.analysis_inputs_of.new.inputs c.read_input.new.inputs (Err c.in_err-table.field-0.0) c.read_input.ensures.kept c.in_err-table.ensures.no_other_fault c.read_input.ensures.taken in
    reads_first g.I.Inputs.state (given ++ table) claims c.args.inputs.now c.read_input.new.inputs _
    (reads_both g.I.Inputs.state given table c.args.inputs.now c.analysis_inputs_of.new.inputs c.read_input.new.inputs c.in_ok-posed.posed _ c.in_ok-posed.ensures.reads
    (reads_stopped g.I.Inputs.state table c.analysis_inputs_of.new.inputs c.read_input.new.inputs c.in_err-table.field-0.0 _ c.from_residual-in_err-table.ensures read))

pub returns-in_err-claims-clause-gives : goal.returns-in_err-claims-clause-gives
returns-in_err-claims-clause-gives g c =
    let request = claims_of c.args.request.now in
    let asked = request.check.analysis in
    let mid = g.I.Inputs.state c.analysis_inputs_of.new.inputs in
    let late = g.I.Inputs.state c.read_input.new.inputs in
    let new = g.I.Inputs.state c.read_input-2.new.inputs in
    let posed = analysis_inputs_of c.in_ok-posed.posed in
    let made = λ (bytes : List ℕ). ClaimsOf asked posed bytes in
    let gives = both_stop (λ reads. PosedOf reads asked.spec asked.code asked.entry) (λ (p : AnalysisInputs). both_behind request.check.table request.claims (ClaimsOf asked p))
    (g.I.Inputs.state c.args.inputs.now) mid new c.analysis_inputs_of.ensures.reads.kept c.in_ok-posed.ensures.reads.no_other_fault (posed_still asked.spec asked.code asked.entry) (λ p. both_behind_wider request.check.table request.claims (ClaimsOf asked p))
    posed c.in_ok-posed.ensures.gives c.in_err-claims.field-0.0
    (both_stop (input table_cap request.check.table) (λ (bytes : List ℕ). claims_behind request.claims (made bytes)) mid late new c.read_input.ensures.kept c.in_ok-table.ensures.no_other_fault (input_still table_cap request.check.table)
    (λ bytes. claims_behind_wider request.claims (made bytes)) c.in_ok-table.table.items c.in_ok-table.ensures.gives c.in_err-claims.field-0.0
    (first_stops (Gave late new claims_cap request.claims) (made c.in_ok-table.table.items) c.in_err-claims.field-0.0 c.in_err-claims.ensures.gives)) in
    search (rules, gives)

pub returns-in_err-claims-clause-reads : goal.returns-in_err-claims-clause-reads
returns-in_err-claims-clause-reads g c =
    let request = claims_of c.args.request.now in
    let given = analyse_inputs request.check.analysis in
    let table = (request.check.table, table_cap) ∷ [] in
    let claims = (request.claims, claims_cap) ∷ [] in
    let read = reads_one g.I.Inputs.state table c.analysis_inputs_of.new.inputs c.read_input.new.inputs (Ok c.in_ok-table.table) c.read_input.ensures.kept c.in_ok-table.ensures.no_other_fault c.read_input.ensures.taken in
    let early = reads_both g.I.Inputs.state given table c.args.inputs.now c.analysis_inputs_of.new.inputs c.read_input.new.inputs c.in_ok-posed.posed (Ok c.in_ok-table.table) c.in_ok-posed.ensures.reads read in
    let late = reads_one g.I.Inputs.state {A = Vec ℕ Global} claims c.read_input.new.inputs c.read_input-2.new.inputs (Err c.in_err-claims.field-0.0) c.read_input-2.ensures.kept c.in_err-claims.ensures.no_other_fault c.read_input-2.ensures.taken in
    reads_both g.I.Inputs.state (given ++ table) claims c.args.inputs.now c.read_input.new.inputs c.read_input-2.new.inputs c.in_ok-table.table _ early
    (reads_stopped g.I.Inputs.state claims c.read_input.new.inputs c.read_input-2.new.inputs c.in_err-claims.field-0.0 _ c.from_residual-in_err-claims.ensures late)

pub returns-clause-gives : goal.returns-clause-gives
returns-clause-gives g c =
    let request = claims_of c.args.request.now in
    let asked = request.check.analysis in
    let mid = g.I.Inputs.state c.analysis_inputs_of.new.inputs in
    let late = g.I.Inputs.state c.read_input.new.inputs in
    let new = g.I.Inputs.state c.read_input-2.new.inputs in
    let posed = analysis_inputs_of c.in_ok-posed.posed in
    let made = λ (bytes : List ℕ). ClaimsOf asked posed bytes in
    let by_table = subst (λ (bytes : List ℕ). Gives (made bytes c.deref-2.result.now) answer_of c.answers_of.result) c.deref.ensures.value c.answers_of.ensures.gives in
    let answers = subst (λ (claims : List ℕ). Gives (made c.in_ok-table.table.items claims) answer_of c.answers_of.result) c.deref-2.ensures.value by_table in
    both_give (λ reads. PosedOf reads asked.spec asked.code asked.entry) (λ (p : AnalysisInputs). both_behind request.check.table request.claims (ClaimsOf asked p))
    (g.I.Inputs.state c.args.inputs.now) mid new c.analysis_inputs_of.ensures.reads.kept c.in_ok-posed.ensures.reads.no_other_fault (posed_still asked.spec asked.code asked.entry) (λ p. both_behind_wider request.check.table request.claims (ClaimsOf asked p))
    posed c.in_ok-posed.ensures.gives answer_of c.answers_of.result
    (both_give (input table_cap request.check.table) (λ (bytes : List ℕ). claims_behind request.claims (made bytes)) mid late new c.read_input.ensures.kept c.in_ok-table.ensures.no_other_fault (input_still table_cap request.check.table)
    (λ bytes. claims_behind_wider request.claims (made bytes)) c.in_ok-table.table.items c.in_ok-table.ensures.gives answer_of c.answers_of.result
    (gives_next (Gave late new claims_cap request.claims) (made c.in_ok-table.table.items) answer_of c.in_ok-claims.claims.items c.answers_of.result c.in_ok-claims.ensures.gives answers))

pub returns-clause-reads : goal.returns-clause-reads
returns-clause-reads g c =
    let request = claims_of c.args.request.now in
    let given = analyse_inputs request.check.analysis in
    let table = (request.check.table, table_cap) ∷ [] in
    let claims = (request.claims, claims_cap) ∷ [] in
    let read = reads_one g.I.Inputs.state table c.analysis_inputs_of.new.inputs c.read_input.new.inputs (Ok c.in_ok-table.table) c.read_input.ensures.kept c.in_ok-table.ensures.no_other_fault c.read_input.ensures.taken in
    let early = reads_both g.I.Inputs.state given table c.args.inputs.now c.analysis_inputs_of.new.inputs c.read_input.new.inputs c.in_ok-posed.posed (Ok c.in_ok-table.table) c.in_ok-posed.ensures.reads read in
    let late = reads_one g.I.Inputs.state claims c.read_input.new.inputs c.read_input-2.new.inputs (Ok c.in_ok-claims.claims) c.read_input-2.ensures.kept c.in_ok-claims.ensures.no_other_fault c.read_input-2.ensures.taken in
    reads_both g.I.Inputs.state (given ++ table) claims c.args.inputs.now c.read_input.new.inputs c.read_input-2.new.inputs c.in_ok-table.table _ early
    (reads_still g.I.Inputs.state claims c.read_input.new.inputs c.read_input-2.new.inputs c.in_ok-claims.claims c.answers_of.result late)

pub answers_of-requires-clause-posed : goal.answers_of-requires-clause-posed
answers_of-requires-clause-posed g c = record { accepted = c.in_ok-posed.ensures.accepted; some = c.in_ok-posed.ensures.machine; few = c.in_ok-posed.ensures.few; entry = c.in_ok-posed.ensures.entry }

pub returns-clause-work : goal.returns-clause-work
returns-clause-work g c =
    let request = claims_of c.args.request.now in
    let asked = request.check.analysis in
    let old = g.I.Inputs.state c.args.inputs.now in
    let mid = g.I.Inputs.state c.analysis_inputs_of.new.inputs in
    let late = g.I.Inputs.state c.read_input.new.inputs in
    let new = g.I.Inputs.state c.read_input-2.new.inputs in
    let posed = analysis_inputs_of c.in_ok-posed.posed in
    let bytes = c.in_ok-table.table.items in
    let was_posed = posed_still asked.spec asked.code asked.entry (Gave old mid) (Gave old new) (gave_still old mid new) posed c.in_ok-posed.ensures.gives in
    let was_read = gave_later old mid late c.analysis_inputs_of.ensures.reads.kept c.in_ok-posed.ensures.reads.no_other_fault table_cap request.check.table (Ok bytes) c.in_ok-table.ensures.gives in
    inr (
      (posed, bytes),
      (was_posed, gave_still old late new table_cap request.check.table bytes was_read),
      subst (λ (text : List ℕ). CheckTakes asked posed text c.args.steps.now c.answers_of.new.steps) c.deref.ensures.value c.answers_of.ensures.work,
    )
