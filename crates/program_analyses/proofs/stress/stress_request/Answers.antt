use Rattle.std.proofs.Common.{inr, rules}
use Rattle.support_command_line.specs.Views.{stress_of}
use Rattle.spec_ir.specs.Views.{specification}
use Rattle.program_stress_code.specs.Entry.{start_text}
use Rattle.semantics_values.specs.Views.{state}
use Rattle.program_common.specs.Outcomes.{answer_of}
use Rattle.program_machine.specs.Views.{analysis_inputs_of}
use Rattle.program_analyses.proofs.Giving.{measured_is_text, no_measure, no_posed, no_start, summed}
use Rattle.program_analyses.proofs.Making.{started_typed}
use Rattle.program_analyses.proofs.stress.stress_request.Goals as goal

pub returns-in_err-posed-clause-gives : goal.returns-in_err-posed-clause-gives
returns-in_err-posed-clause-gives g c =
    let gives = no_posed (stress_of c.args.request) c.in_err-posed.field-0.0 c.in_err-posed.ensures.gives in
    search (rules, gives)

pub returns-in_err-start-clause-gives : goal.returns-in_err-start-clause-gives
returns-in_err-start-clause-gives g c =
    let gives = no_start (stress_of c.args.request) (analysis_inputs_of c.in_ok-posed.posed) c.in_err-start.field-0.0 c.in_ok-posed.ensures.gives c.in_err-start.ensures in
    search (rules, gives)

pub returns-in_err-measured-clause-gives : goal.returns-in_err-measured-clause-gives
returns-in_err-measured-clause-gives g c =
    let gives = no_measure (stress_of c.args.request) (analysis_inputs_of c.in_ok-posed.posed) (state c.in_ok-start.start) c.in_err-measured.field-0.0 c.in_ok-posed.ensures.gives c.in_ok-start.ensures c.in_err-measured.ensures.gives in
    search (rules, gives)

pub returns-clause-gives : goal.returns-clause-gives
returns-clause-gives g c =
    summed (stress_of c.args.request) (analysis_inputs_of c.in_ok-posed.posed) (state c.in_ok-start.start) (answer_of c.in_ok-measured.measured) _ c.in_ok-posed.ensures.gives c.in_ok-start.ensures c.in_ok-measured.ensures.gives c.in_ok-summarise.ensures

pub measure_inputs-requires : goal.measure_inputs-requires
measure_inputs-requires g c = record { accepted = c.in_ok-posed.ensures.accepted; machine = c.in_ok-posed.ensures.machine; few = c.in_ok-posed.ensures.few; entry = c.in_ok-posed.ensures.entry }

pub summarise-requires : goal.summarise-requires
summarise-requires g c =
    record {
      accepted = c.in_ok-posed.ensures.accepted;
      machine = c.in_ok-posed.ensures.machine;
      typed = started_typed (specification c.in_ok-posed.posed.spec) start_text (state c.in_ok-start.start) c.in_ok-posed.ensures.accepted c.in_ok-start.ensures;
      lines = measured_is_text c.args.request.base (analysis_inputs_of c.in_ok-posed.posed) (answer_of c.in_ok-measured.measured) c.in_ok-measured.ensures.gives;
    }

pub returns-clause-work : goal.returns-clause-work
returns-clause-work g c = inr (analysis_inputs_of c.in_ok-posed.posed, c.in_ok-posed.ensures.gives, c.in_ok-measured.ensures.work)
