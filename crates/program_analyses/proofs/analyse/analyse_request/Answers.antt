use Rattle.std.proofs.Common.{inr, rules}
use Rattle.support_command_line.specs.Views.{analyse_of}
use Rattle.program_common.specs.Outcomes.{answer_of}
use Rattle.program_common.specs.Reading.{Gave}
use Rattle.program_common.proofs.Readings.{reads_still, reads_stopped}
use Rattle.program_common.proofs.Steps.{first_stops, gives_next}
use Rattle.program_machine.specs.Inputs.{PosedOf}
use Rattle.program_machine.specs.Views.{analysis_inputs_of}
use Rattle.program_analyses.specs.Steps.{AnalysisOf, analyse_inputs}
use Rattle.program_analyses.proofs.analyse.analyse_request.Goals as goal

pub returns-in_err-posed-clause-gives : goal.returns-in_err-posed-clause-gives
returns-in_err-posed-clause-gives g c =
    let request = analyse_of c.args.request.now in
    let gives = first_stops (PosedOf (Gave (g.I.Inputs.state c.args.inputs.now) (g.I.Inputs.state c.analysis_inputs_of.new.inputs)) request.spec request.code request.entry) (AnalysisOf request)
    c.in_err-posed.field-0.0 c.in_err-posed.ensures.gives in
    search (rules, gives)

pub returns-clause-gives : goal.returns-clause-gives
returns-clause-gives g c =
    let request = analyse_of c.args.request.now in
    gives_next (PosedOf (Gave (g.I.Inputs.state c.args.inputs.now) (g.I.Inputs.state c.analysis_inputs_of.new.inputs)) request.spec request.code request.entry) (AnalysisOf request) answer_of
    (analysis_inputs_of c.in_ok-posed.posed) c.analysis_of.result c.in_ok-posed.ensures.gives c.analysis_of.ensures.gives

pub returns-clause-reads : goal.returns-clause-reads
returns-clause-reads g c =
    reads_still g.I.Inputs.state (analyse_inputs (analyse_of c.args.request.now)) c.args.inputs.now c.analysis_inputs_of.new.inputs c.in_ok-posed.posed c.analysis_of.result c.in_ok-posed.ensures.reads

pub analysis_of-requires : goal.analysis_of-requires
analysis_of-requires g c = record { accepted = c.in_ok-posed.ensures.accepted; some = c.in_ok-posed.ensures.machine; few = c.in_ok-posed.ensures.few; entry = c.in_ok-posed.ensures.entry }

pub returns-clause-work : goal.returns-clause-work
returns-clause-work g c = inr (analysis_inputs_of c.in_ok-posed.posed, c.in_ok-posed.ensures.gives, c.analysis_of.ensures.work)

pub returns-in_err-posed-clause-reads : goal.returns-in_err-posed-clause-reads
returns-in_err-posed-clause-reads g c =
    reads_stopped g.I.Inputs.state (analyse_inputs (analyse_of c.args.request.now)) c.args.inputs.now c.analysis_inputs_of.new.inputs c.in_err-posed.field-0.0 _ c.from_residual.ensures c.in_err-posed.ensures.reads
