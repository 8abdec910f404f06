-- Where a stress answers, its table is accepted.
use Rattle.std.proofs.Common.{ℕ, List}
use Rattle.std.specs.Prelude.{Ok}
use Rattle.support_command_line.specs.Requests.{StressRequest}
use Rattle.semantics_values.specs.States.{State}
use Rattle.program_domains.proofs.Measures.{measures_accept}
use Rattle.program_common.specs.Outcome.{Answer, calls_ended, text, undecodable}
use Rattle.program_common.proofs.Steps.{opened}
use Rattle.program_machine.specs.Inputs.{AnalysisInputs}
use Rattle.program_analyses.specs.StressLaws.{IsStress, StressIsAccepted}
use Rattle.program_analyses.specs.Made.{MadeOf, StartOf}
use Rattle.program_analyses.specs.StressSteps.{MeasureOf, SummaryOf, problem_made, stress_cases, stress_joins, stress_limit}
use Rattle.program_analyses.proofs.Making.{made_is_well_posed}

by_answer : (request : StressRequest) (posed : AnalysisInputs) (start : State) (answer : Answer) (bytes : List ℕ) → MadeOf request (Ok posed) → StartOf posed (Ok start) → MeasureOf request.base posed (Ok answer)
    → SummaryOf request.count posed start answer (Ok (text bytes)) → IsStress request bytes
by_answer request posed start (text measured) bytes made starts is sums =
    let posed_well = made_is_well_posed request posed is.machine stress_limit stress_joins stress_cases made is.is_machine in
    let found = measures_accept posed.image (problem_made posed is.machine) request.base measured posed_well is.measured in
    record { posed = posed; is_posed = made; start = start; starts = starts; measured = measured; is_measured = is; transfers = found.0; elements = found.1; accepted = found.2; summary = sums }
by_answer request posed start (undecodable measured) bytes made starts is sums = absurd sums
by_answer request posed start (calls_ended measured) bytes made starts is sums = absurd sums

pub stress_is_accepted : StressIsAccepted
stress_is_accepted request bytes is =
    let p = opened (MadeOf request) _ (text bytes) is in
    let s = opened (StartOf p.0) _ (text bytes) p.2 in
    let m = opened (MeasureOf request.base p.0) (SummaryOf request.count p.0 s.0) (text bytes) s.2 in
    by_answer request p.0 s.0 m.0 bytes p.1 s.1 m.1 m.2
