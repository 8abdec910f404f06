-- How many transfers the commands on tables make.
use Rattle.std.specs.Prelude.{◌≡◌, ◌⊎◌, ℕ, ◌≤◌, Bool, false, true, List, Some, Ok}
use Rattle.support_command_line.specs.declared.bases.BaseName.{BaseName}
use Rattle.support_command_line.specs.Bases.{base_text}
use Rattle.support_command_line.specs.Requests.{AnalyseRequest, CheckRequest, ClaimsRequest, SliceRequest}
use Rattle.spec_ir.specs.declared.spec.Machine.{Machine}
use Rattle.domain_laws.specs.States.{state_type}
use Rattle.program_domains.specs.Named.{domain_of}
use Rattle.program_domains.specs.Work.{IsOpenWorkOn, IsWorkOn, WorkOf}
use Rattle.program_common.specs.Reading.{Reading}
use Rattle.program_machine.specs.Inputs.{AnalysisInputs, PosedOf, SliceInputs, SoughtOf, table_cap}
use Rattle.program_analyses.specs.Problems.{problem_in, task_in}

-- From so many transfers to so many: none was made, or as many as what was read takes.
abbrev pub IsWorkFor : {A : Type 0} → (A → Type 0) → (A → ℕ → ℕ → Type 0) → ℕ → ℕ → Type 0
IsWorkFor {A = A} Is Takes old new = (new ≤ old) ⊎ ((x : A) × Is x × Takes x old new)

-- The analysis of what was read takes as many.
pub record AnalysisTakes (request : AnalyseRequest) (posed : AnalysisInputs) (old new : ℕ) : Type 0 where
  pub machine : Machine
  pub is_machine : posed.spec.machine ≡ Some machine
  pub work : WorkOf posed.image (task_in request (problem_in request posed machine)) request.base old new

-- Work on a table takes as many, which is a text: one for each address that it lists; where it may be left open, two.
abbrev pub TableTakes : Bool → BaseName → AnalysisInputs → List ℕ → ℕ → ℕ → Type 0
TableTakes false base posed bytes = IsWorkOn (domain_of (state_type posed.spec) base).domain posed.image (base_text base) posed.spec bytes
TableTakes true base posed bytes = IsOpenWorkOn (domain_of (state_type posed.spec) base).domain posed.image (base_text base) posed.spec bytes

-- So does the check of a table, as the request asks for it.
abbrev pub CheckTakes : AnalyseRequest → AnalysisInputs → List ℕ → ℕ → ℕ → Type 0
CheckTakes request = TableTakes request.open request.base

-- `analyse` makes at most N(H + J + 1) transfers, of N code words and elements of the height H of which J changes join; left open, N more.
abbrev pub AnalyseWork : Reading → AnalyseRequest → ℕ → ℕ → Type 0
AnalyseWork reads request = IsWorkFor (λ posed. PosedOf reads request.spec request.code request.entry (Ok posed)) (AnalysisTakes request)

-- `check` makes at most one for each address that the table lists, and where the table may be left open at most two,
abbrev pub CheckWork : Reading → CheckRequest → ℕ → ℕ → Type 0
CheckWork reads request =
    IsWorkFor (λ (read : AnalysisInputs × List ℕ). PosedOf reads request.analysis.spec request.analysis.code request.analysis.entry (Ok read.0) × reads table_cap request.table (Ok read.1))
    (λ read. CheckTakes request.analysis read.0 read.1)

-- and so do `slice`
abbrev pub SliceWork : Reading → SliceRequest → ℕ → ℕ → Type 0
SliceWork reads request =
    IsWorkFor (λ (read : SliceInputs × List ℕ). SoughtOf reads request.check.analysis.spec request.cell request.check.analysis.code request.check.analysis.entry (Ok read.0)
    × reads table_cap request.check.table (Ok read.1))
    (λ read. CheckTakes request.check.analysis read.0.posed read.1)

-- and `claims`.
abbrev pub ClaimsWork : Reading → ClaimsRequest → ℕ → ℕ → Type 0
ClaimsWork reads request = CheckWork reads request.check
