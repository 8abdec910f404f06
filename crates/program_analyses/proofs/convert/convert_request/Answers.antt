use Rattle.std.proofs.Common.{Global, ℕ, List, [], ◌∷◌, rules, subst}
use Rattle.std.specs.Prelude.{Ok, Err, Vec}
use Rattle.support_command_line.specs.Views.{convert_of}
use Rattle.program_common.specs.Outcomes.{Gives, answer_of}
use Rattle.program_common.specs.Reading.{Gave}
use Rattle.program_common.proofs.Readings.{reads_both, reads_first, reads_one, reads_still, reads_stopped}
use Rattle.program_common.proofs.Steps.{first_stops, gives_next}
use Rattle.program_analyses.specs.Steps.{ConversionOf}
use Rattle.program_machine.specs.Inputs.{CodeInputs, CodedOf, coded_inputs, table_cap}
use Rattle.program_machine.specs.Views.{code_inputs_of}
use Rattle.program_machine.proofs.InputChains.{both_give, both_stop, coded_still}
use Rattle.program_analyses.proofs.Chains.{table_behind, table_behind_wider}
use Rattle.program_analyses.proofs.convert.convert_request.Goals as goal

pub returns-in_err-coded-clause-gives : goal.returns-in_err-coded-clause-gives
returns-in_err-coded-clause-gives g c =
    let request = convert_of c.args.request.now in
    let reads = Gave (g.I.Inputs.state c.args.inputs.now) (g.I.Inputs.state c.code_inputs_of.new.inputs) in
    let gives = first_stops (CodedOf reads request.spec request.code) (λ coded. table_behind request.table (ConversionOf request.base coded) reads)
    c.in_err-coded.field-0.0 c.in_err-coded.ensures.gives in
    search (rules, gives)

pub returns-in_err-table-clause-gives : goal.returns-in_err-table-clause-gives
returns-in_err-table-clause-gives g c =
    let request = convert_of c.args.request.now in
    let mid = g.I.Inputs.state c.code_inputs_of.new.inputs in
    let new = g.I.Inputs.state c.read_input.new.inputs in
    let coded = code_inputs_of c.in_ok-coded.coded in
    let gives = both_stop (λ reads. CodedOf reads request.spec request.code) (λ (x : CodeInputs). table_behind request.table (ConversionOf request.base x))
    (g.I.Inputs.state c.args.inputs.now) mid new c.code_inputs_of.ensures.reads.kept c.in_ok-coded.ensures.reads.no_other_fault (coded_still request.spec request.code) (λ x. table_behind_wider request.table (ConversionOf request.base x))
    coded c.in_ok-coded.ensures.gives c.in_err-table.field-0.0
    (first_stops (Gave mid new table_cap request.table) (ConversionOf request.base coded) c.in_err-table.field-0.0 c.in_err-table.ensures.gives) in
    search (rules, gives)

pub returns-clause-gives : goal.returns-clause-gives
returns-clause-gives g c =
    let request = convert_of c.args.request.now in
    let mid = g.I.Inputs.state c.code_inputs_of.new.inputs in
    let new = g.I.Inputs.state c.read_input.new.inputs in
    let coded = code_inputs_of c.in_ok-coded.coded in
    let conversion = subst (λ (bytes : List ℕ). Gives (ConversionOf request.base coded bytes) answer_of c.conversion_of.result) c.deref.ensures.value c.conversion_of.ensures.gives in
    both_give (λ reads. CodedOf reads request.spec request.code) (λ (x : CodeInputs). table_behind request.table (ConversionOf request.base x))
    (g.I.Inputs.state c.args.inputs.now) mid new c.code_inputs_of.ensures.reads.kept c.in_ok-coded.ensures.reads.no_other_fault (coded_still request.spec request.code) (λ x. table_behind_wider request.table (ConversionOf request.base x))
    coded c.in_ok-coded.ensures.gives answer_of c.conversion_of.result
    (gives_next (Gave mid new table_cap request.table) (ConversionOf request.base coded) answer_of c.in_ok-table.table.items c.conversion_of.result c.in_ok-table.ensures.gives conversion)

pub returns-clause-reads : goal.returns-clause-reads
returns-clause-reads g c =
    let request = convert_of c.args.request.now in
    let given = coded_inputs request.spec request.code in
    let table = (request.table, table_cap) ∷ [] in
    let read = reads_one g.I.Inputs.state table c.code_inputs_of.new.inputs c.read_input.new.inputs (Ok c.in_ok-table.table) c.read_input.ensures.kept c.in_ok-table.ensures.no_other_fault c.read_input.ensures.taken in
    reads_both g.I.Inputs.state given table c.args.inputs.now c.code_inputs_of.new.inputs c.read_input.new.inputs c.in_ok-coded.coded _ c.in_ok-coded.ensures.reads
    (reads_still g.I.Inputs.state table c.code_inputs_of.new.inputs c.read_input.new.inputs c.in_ok-table.table c.conversion_of.result read)

pub conversion_of-requires-clause-machine : goal.conversion_of-requires-clause-machine
conversion_of-requires-clause-machine g c = record { accepted = c.in_ok-coded.ensures.accepted; some = c.in_ok-coded.ensures.machine; few = c.in_ok-coded.ensures.few }

pub returns-in_err-coded-clause-reads : goal.returns-in_err-coded-clause-reads
returns-in_err-coded-clause-reads g c =
    let request = convert_of c.args.request.now in
    let given = coded_inputs request.spec request.code in
    let table = (request.table, table_cap) ∷ [] in
    reads_first g.I.Inputs.state given table c.args.inputs.now c.code_inputs_of.new.inputs _
    (reads_stopped g.I.Inputs.state given c.args.inputs.now c.code_inputs_of.new.inputs c.in_err-coded.field-0.0 _ c.from_residual.ensures c.in_err-coded.ensures.reads)

pub returns-in_err-table-clause-reads : goal.returns-in_err-table-clause-reads
returns-in_err-table-clause-reads g c =
    let request = convert_of c.args.request.now in
    let given = coded_inputs request.spec request.code in
    let table = (request.table, table_cap) ∷ [] in
    let read = reads_one g.I.Inputs.state {A = Vec ℕ Global} table c.code_inputs_of.new.inputs c.read_input.new.inputs (Err c.in_err-table.field-0.0) c.read_input.ensures.kept c.in_err-table.ensures.no_other_fault c.read_input.ensures.taken in
    reads_both g.I.Inputs.state given table c.args.inputs.now c.code_inputs_of.new.inputs c.read_input.new.inputs c.in_ok-coded.coded _ c.in_ok-coded.ensures.reads
    (reads_stopped g.I.Inputs.state table c.code_inputs_of.new.inputs c.read_input.new.inputs c.in_err-table.field-0.0 _ c.from_residual-in_err-table.ensures read)
