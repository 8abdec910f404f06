use Rattle.program_common.specs.Outcomes.{answer_of}
use Rattle.program_common.proofs.Steps.{gives_too}
use Rattle.program_domains.specs.Named.{Measured}
use Rattle.program_machine.specs.Views.{analysis_inputs_of}
use Rattle.program_analyses.specs.StressSteps.{MeasureOf, problem_made}
use Rattle.program_analyses.proofs.stress.measure_inputs.Goals as goal

pub returns-clause-gives : goal.returns-clause-gives
returns-clause-gives g c =
    let posed = analysis_inputs_of c.args.posed.now in
    gives_too (Measured posed.image (problem_made posed c.in-Some.machine) c.args.base) (MeasureOf c.args.base posed) answer_of c.over_base.result
    (λ outcome is. record { machine = c.in-Some.machine; is_machine = c.in-Some.is; measured = is }) c.over_base.ensures.gives

pub returns-clause-work : goal.returns-clause-work
returns-clause-work g c = record { machine = c.in-Some.machine; is_machine = c.in-Some.is; work = c.over_base.ensures.work }

pub over_base-requires : goal.over_base-requires
over_base-requires g c = record { accepted = c.requires.accepted; is_machine = c.in-Some.is; few = c.requires.few; given = c.requires.entry }
