-- The steps of the commands on tables.
use Rattle.std.specs.Prelude.{◌≡◌, ℕ, List, [], ◌∷◌, ◌++◌, Some, Ok}
use Rattle.support_command_line.specs.declared.bases.BaseName.{BaseName}
use Rattle.support_command_line.specs.Requests.{AnalyseRequest, CheckRequest, ClaimsRequest, ConvertRequest, SliceRequest}
use Rattle.spec_ir.specs.declared.spec.Machine.{Machine}
use Rattle.program_domains.specs.Named.{Accepted, AcceptedOpen, Analysed, AnalysedOpen, ClaimsHold, ClaimsHoldOpen, Converted, Done, SliceHolds, SliceHoldsOpen}
use Rattle.program_common.specs.Outcome.{Outcome, text}
use Rattle.program_common.specs.Reading.{Capped, Reading}
use Rattle.program_common.specs.Steps.{Then}
use Rattle.program_machine.specs.Inputs.{CodeInputs, CodedOf, AnalysisInputs, PosedOf, SliceInputs, SoughtOf, claims_cap, coded_inputs, posed_inputs, table_cap}
use Rattle.program_analyses.specs.Problems.{check_task_in, claims_task_in, problem_in, slice_task_in, task_in}

-- The outcome of the analysis of what was read, as the request asks for it: over its base and under its limit, left open or not.
pub record AnalysisOf (request : AnalyseRequest) (posed : AnalysisInputs) (outcome : Outcome) : Type 0 where
  pub machine : Machine
  pub is_machine : posed.spec.machine ≡ Some machine
  pub analysed : Done posed.image (task_in request (problem_in request posed machine)) request.base outcome

-- The text is that of the table of the analysis, which is not left open: it is true of every run.
pub record TabledBy (request : AnalyseRequest) (posed : AnalysisInputs) (bytes : List ℕ) : Type 0 where
  pub machine : Machine
  pub is_machine : posed.spec.machine ≡ Some machine
  pub analysed : Analysed posed.image (problem_in request posed machine) request.base (Ok (text bytes))

-- The text is that of the table of the analysis that is left open: it is true of every run up to and with the first state at an open address.
pub record OpenTabledBy (request : AnalyseRequest) (posed : AnalysisInputs) (bytes : List ℕ) : Type 0 where
  pub machine : Machine
  pub is_machine : posed.spec.machine ≡ Some machine
  pub analysed : AnalysedOpen posed.image (problem_in request posed machine) request.base (Ok (text bytes))

-- That of the check of a table, which is a text, as the request asks for it: of one that may be left open, or not.
pub record CheckOf (request : AnalyseRequest) (posed : AnalysisInputs) (bytes : List ℕ) (outcome : Outcome) : Type 0 where
  pub machine : Machine
  pub is_machine : posed.spec.machine ≡ Some machine
  pub checked : Done posed.image (check_task_in request (problem_in request posed machine) bytes) request.base outcome

-- That of a text which is written anew.
abbrev pub ConversionOf : BaseName → CodeInputs → List ℕ → Outcome → Type 0
ConversionOf base coded = Converted coded.image coded.spec base

-- The text is that of a table which a check accepts: it is closed, and true of every run.
pub record AcceptedBy (request : AnalyseRequest) (posed : AnalysisInputs) (bytes : List ℕ) : Type 0 where
  pub machine : Machine
  pub is_machine : posed.spec.machine ≡ Some machine
  pub accepted : Accepted posed.image (problem_in request posed machine) request.base bytes

-- The text is that of a table which a check accepts that may be left open: it is closed but there, and true of every run up to and with the first state at
-- an open address.
pub record OpenAcceptedBy (request : AnalyseRequest) (posed : AnalysisInputs) (bytes : List ℕ) : Type 0 where
  pub machine : Machine
  pub is_machine : posed.spec.machine ≡ Some machine
  pub accepted : AcceptedOpen posed.image (problem_in request posed machine) request.base bytes

-- That of the slice of a table, which is a text, for the reads of a cell by the instruction at an address; of one that may be left open, or not.
pub record SliceOf (request : AnalyseRequest) (sought : SliceInputs) (at : ℕ) (bytes : List ℕ) (outcome : Outcome) : Type 0 where
  pub machine : Machine
  pub is_machine : sought.posed.spec.machine ≡ Some machine
  pub sliced : Done sought.posed.image (slice_task_in request (problem_in request sought.posed machine) bytes at sought.asked) request.base outcome

-- The text is that of the slice of a table which a check accepts: it holds every chain of every read that it is of.
pub record SlicedBy (request : AnalyseRequest) (sought : SliceInputs) (at : ℕ) (bytes text : List ℕ) : Type 0 where
  pub machine : Machine
  pub is_machine : sought.posed.spec.machine ≡ Some machine
  pub holds : SliceHolds sought.posed.image (problem_in request sought.posed machine) request.base bytes at sought.asked text

-- The text is that of the slice of a table which a check accepts that may be left open: it holds every chain of every read that it is of, in every run
-- up to and with the first state at an open address.
pub record OpenSlicedBy (request : AnalyseRequest) (sought : SliceInputs) (at : ℕ) (bytes text : List ℕ) : Type 0 where
  pub machine : Machine
  pub is_machine : sought.posed.spec.machine ≡ Some machine
  pub holds : SliceHoldsOpen sought.posed.image (problem_in request sought.posed machine) request.base bytes at sought.asked text

-- That of claims, which are a text, on a table, which is one and may be left open, or not.
pub record ClaimsOf (request : AnalyseRequest) (posed : AnalysisInputs) (bytes claims : List ℕ) (outcome : Outcome) : Type 0 where
  pub machine : Machine
  pub is_machine : posed.spec.machine ≡ Some machine
  pub claimed : Done posed.image (claims_task_in request (problem_in request posed machine) bytes claims) request.base outcome

-- The text has a line for each claim on a table which a check accepts: each that is answered with yes is true of every run.
pub record ClaimedBy (request : AnalyseRequest) (posed : AnalysisInputs) (bytes claims text : List ℕ) : Type 0 where
  pub machine : Machine
  pub is_machine : posed.spec.machine ≡ Some machine
  pub holds : ClaimsHold posed.image (problem_in request posed machine) request.base bytes claims text

-- The text has a line for each claim on a table which a check accepts that may be left open: each that is answered with yes is true of every run up to
-- and with the first state at an open address.
pub record OpenClaimedBy (request : AnalyseRequest) (posed : AnalysisInputs) (bytes claims text : List ℕ) : Type 0 where
  pub machine : Machine
  pub is_machine : posed.spec.machine ≡ Some machine
  pub holds : ClaimsHoldOpen posed.image (problem_in request posed machine) request.base bytes claims text

-- `analyse`: the specification, the code and the entry are read and examined, one after another, and the code is analysed
abbrev pub AnalyseSteps : Reading → AnalyseRequest → Outcome → Type 0
AnalyseSteps reads request = Then (PosedOf reads request.spec request.code request.entry) (AnalysisOf request)

-- `check`: then the table is read, and checked
abbrev pub CheckSteps : Reading → CheckRequest → Outcome → Type 0
CheckSteps reads request =
    Then (PosedOf reads request.analysis.spec request.analysis.code request.analysis.entry) (λ posed.
    Then (reads table_cap request.table) (CheckOf request.analysis posed))

-- `convert`: the specification, the code and the table are read, and the table is written anew
abbrev pub ConvertSteps : Reading → ConvertRequest → Outcome → Type 0
ConvertSteps reads request =
    Then (CodedOf reads request.spec request.code) (λ coded.
    Then (reads table_cap request.table) (ConversionOf request.base coded))

-- `slice`: the specification is read and examined, and the cell is sought in its states; then the code and the entry are read and examined; then the
-- table is read, checked and sliced
abbrev pub SliceSteps : Reading → SliceRequest → Outcome → Type 0
SliceSteps reads request =
    Then (SoughtOf reads request.check.analysis.spec request.cell request.check.analysis.code request.check.analysis.entry) (λ sought.
    Then (reads table_cap request.check.table) (SliceOf request.check.analysis sought request.address))

-- `claims`: as `check` up to the table; then the claims are read, the table and the claims are examined, and the claims are answered
abbrev pub ClaimsSteps : Reading → ClaimsRequest → Outcome → Type 0
ClaimsSteps reads request =
    Then (PosedOf reads request.check.analysis.spec request.check.analysis.code request.check.analysis.entry) (λ posed.
    Then (reads table_cap request.check.table) (λ bytes.
    Then (reads claims_cap request.claims) (ClaimsOf request.check.analysis posed bytes)))

-- the inputs that are opened
abbrev pub analyse_inputs : AnalyseRequest → List Capped
analyse_inputs request = posed_inputs request.spec request.code request.entry

abbrev pub check_inputs : CheckRequest → List Capped
check_inputs request = analyse_inputs request.analysis ++ (request.table, table_cap) ∷ []

abbrev pub convert_inputs : ConvertRequest → List Capped
convert_inputs request = coded_inputs request.spec request.code ++ (request.table, table_cap) ∷ []

abbrev pub slice_inputs : SliceRequest → List Capped
slice_inputs request = check_inputs request.check

abbrev pub claims_inputs : ClaimsRequest → List Capped
claims_inputs request = check_inputs request.check ++ (request.claims, claims_cap) ∷ []
