-- What a request asks of what was read.
use Rattle.std.specs.Prelude.{ℕ, List, if◌then◌else◌}
use Rattle.support_command_line.specs.Requests.{AnalyseRequest}
use Rattle.spec_ir.specs.declared.spec.Machine.{Machine}
use Rattle.analysis_problems.specs.Problems.{problem_of}
use Rattle.analysis_transfer_laws.specs.Problem.{Problem}
use Rattle.program_domains.specs.Tasks.{Task, analyse, analyse_open, check, check_open, claims, claims_open, slice, slice_open}
use Rattle.text_slices.specs.declared.slice_cell.SliceCell.{SliceCell}
use Rattle.program_machine.specs.Inputs.{AnalysisInputs}

-- the problem of a machine with its code and an entry, under the limit of the request, where as many changes of an element join as it says
abbrev pub problem_in : AnalyseRequest → AnalysisInputs → Machine → Problem
problem_in request posed machine = problem_of posed.spec machine posed.image posed.entry request.limit request.joins request.cases

-- the analysis of a problem, which is left open where the request says so
abbrev pub task_in : AnalyseRequest → Problem → Task
task_in request p = if request.open then analyse_open p else analyse p

-- the check of the table that a text is, which may be left open where the request says so
abbrev pub check_task_in : AnalyseRequest → Problem → List ℕ → Task
check_task_in request p bytes = if request.open then check_open p bytes else check p bytes

-- so is its slice, at an address for a cell,
abbrev pub slice_task_in : AnalyseRequest → Problem → List ℕ → ℕ → SliceCell → Task
slice_task_in request p bytes at asked = if request.open then slice_open p bytes at asked else slice p bytes at asked

-- and so are its answers to the claims that another text is
abbrev pub claims_task_in : AnalyseRequest → Problem → List ℕ → List ℕ → Task
claims_task_in request p bytes list = if request.open then claims_open p bytes list else claims p bytes list
