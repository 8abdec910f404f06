-- The tables that analyses write, those that checks accept, and what slices and claims tell of them.
use Rattle.std.specs.Prelude.{◌≡◌, ℕ, List, Some, Ok}
use Rattle.support_command_line.specs.Requests.{AnalyseRequest, CheckRequest, ClaimsRequest, SliceRequest}
use Rattle.program_common.specs.Reading.{Held, Holds}
use Rattle.program_analyses.specs.Steps.{AcceptedBy, ClaimedBy, OpenAcceptedBy, OpenClaimedBy, OpenSlicedBy, OpenTabledBy, SlicedBy, TabledBy}
use Rattle.program_machine.specs.Inputs.{AnalysisInputs, PosedOf, SliceInputs, SoughtOf}

-- The bytes are the text of the table of an analysis: of the machine, the code and the entry that the names of a request hold.
--
-- So the table is true of every run of that machine, on that code, from every state that the entry describes: the element at each address
-- describes every state that the meaning puts there, and where the base tells stamps each use list holds every definition that a read sees. This is `is_true` of
-- `IsTable` (program_domains specs/Analyses), to which `tabled` comes; `IsTrueOfRuns` (analysis_transfer_laws specs/Runs) says it in full.
pub record IsTableFor (held : Held) (request : AnalyseRequest) (bytes : List ℕ) : Type 0 where
  pub posed : AnalysisInputs
  pub is_posed : PosedOf (Holds held) request.spec request.code request.entry (Ok posed)
  pub tabled : TabledBy request posed bytes

-- The bytes are the text of the table of an analysis that is left open: of the machine, the code and the entry that the names of a request hold.
--
-- Its open blocks are those whose instruction has no decoding, or may lead to too many addresses: they list no address that comes next. So the table is
-- true of every run of that machine, on that code, from every state that the entry describes, up to and with the first state at an open address: to
-- there it says what a table of an analysis says that is not left open. This is `is_true` of `IsOpenTable` (program_domains specs/OpenAnalyses), to
-- which `tabled` comes; `IsTrueUntilOpen` (analysis_transfer_laws specs/OpenRuns) says it in full.
pub record IsOpenTableFor (held : Held) (request : AnalyseRequest) (bytes : List ℕ) : Type 0 where
  pub posed : AnalysisInputs
  pub is_posed : PosedOf (Holds held) request.spec request.code request.entry (Ok posed)
  pub tabled : OpenTabledBy request posed bytes

-- The table of a request holds the text of a table that is accepted for the machine, the code and the entry that the other names hold.
--
-- So that table is closed, and true of every run of that machine just as a table of an analysis is: this is `is_true` of `IsAccepted`
-- (program_domains specs/Checks), to which `accepted` comes.
pub record IsAcceptedFor (held : Held) (request : CheckRequest) : Type 0 where
  pub posed : AnalysisInputs
  pub bytes : List ℕ
  pub is_posed : PosedOf (Holds held) request.analysis.spec request.analysis.code request.analysis.entry (Ok posed)
  pub is_held : held request.table ≡ Some bytes
  pub accepted : AcceptedBy request.analysis posed bytes

-- The table of a request, which may be left open, holds the text of a table that is accepted so for the machine, the code and the entry that the other names
-- hold.
--
-- So that table is closed but at its open addresses, and true of every run of that machine up to and with the first state at one of them, just as a table
-- of an analysis that is left open is: this is `is_true` of `IsOpenAccepted` (program_domains specs/OpenChecks), to which `accepted` comes. A table of
-- which no address is open is true of every run.
pub record IsOpenAcceptedFor (held : Held) (request : CheckRequest) : Type 0 where
  pub posed : AnalysisInputs
  pub bytes : List ℕ
  pub is_posed : PosedOf (Holds held) request.analysis.spec request.analysis.code request.analysis.entry (Ok posed)
  pub is_held : held request.table ≡ Some bytes
  pub accepted : OpenAcceptedBy request.analysis posed bytes

-- The text is that of the slice of a table that is accepted: of the table that a request names, for the machine, the code and the entry that the other
-- names hold, and for the reads of the cell by the instruction at the address that the words give.
--
-- So it holds every chain of every such read, in every run of that machine, on that code, from every state that the entry describes: it has the address
-- of each step of the chain, and the line `entry` where the chain begins with a cell that no step put. This is `chains` of `HoldsChains`
-- (program_domains specs/Slices), to which `sliced` comes.
pub record IsSliceFor (held : Held) (request : SliceRequest) (text : List ℕ) : Type 0 where
  pub sought : SliceInputs
  pub bytes : List ℕ
  pub is_sought : SoughtOf (Holds held) request.check.analysis.spec request.cell request.check.analysis.code request.check.analysis.entry (Ok sought)
  pub is_held : held request.check.table ≡ Some bytes
  pub sliced : SlicedBy request.check.analysis sought request.address bytes text

-- The text is that of the slice of a table, which may be left open and is accepted so: of the table that a request names, for the machine, the code and the
-- entry that the other names hold, and for the reads of the cell by the instruction at the address that the words give.
--
-- So it holds every chain of every such read whose step no state at an open address comes before, in every run of that machine, on that code, from every
-- state that the entry describes; its first line is `until open` exactly where some address is open. This is `chains` of `HoldsOpenChains`
-- (program_domains specs/OpenSlices), to which `sliced` comes.
pub record IsOpenSliceFor (held : Held) (request : SliceRequest) (text : List ℕ) : Type 0 where
  pub sought : SliceInputs
  pub bytes : List ℕ
  pub is_sought : SoughtOf (Holds held) request.check.analysis.spec request.cell request.check.analysis.code request.check.analysis.entry (Ok sought)
  pub is_held : held request.check.table ≡ Some bytes
  pub sliced : OpenSlicedBy request.check.analysis sought request.address bytes text

-- The text has a line, yes or open, for each claim that a request names, on a table that is accepted: the one that it names, for the machine, the code and
-- the entry that the other names hold.
--
-- So each claim whose line is yes is true of every state that a run of that machine, on that code, has at its address, from every state that the entry
-- describes. This is `hold` of `HoldsClaims` (program_domains specs/Claims), to which `claimed` comes.
pub record AreClaimsFor (held : Held) (request : ClaimsRequest) (text : List ℕ) : Type 0 where
  pub posed : AnalysisInputs
  pub table_bytes : List ℕ
  pub claims_bytes : List ℕ
  pub is_posed : PosedOf (Holds held) request.check.analysis.spec request.check.analysis.code request.check.analysis.entry (Ok posed)
  pub is_held : held request.check.table ≡ Some table_bytes
  pub are_held : held request.claims ≡ Some claims_bytes
  pub claimed : ClaimedBy request.check.analysis posed table_bytes claims_bytes text

-- The text has a line, yes or open, for each claim that a request names, on a table that may be left open and is accepted so: the one that it names, for the
-- machine, the code and the entry that the other names hold.
--
-- So each claim whose line is yes is true of every state that a run of that machine, on that code, has at its address as long as no state before is at an open
-- address, from every state that the entry describes; the first line is `until open` exactly where some address is open. This is `hold` of
-- `HoldsOpenClaims` (program_domains specs/OpenClaims), to which `claimed` comes.
pub record AreOpenClaimsFor (held : Held) (request : ClaimsRequest) (text : List ℕ) : Type 0 where
  pub posed : AnalysisInputs
  pub table_bytes : List ℕ
  pub claims_bytes : List ℕ
  pub is_posed : PosedOf (Holds held) request.check.analysis.spec request.check.analysis.code request.check.analysis.entry (Ok posed)
  pub is_held : held request.check.table ≡ Some table_bytes
  pub are_held : held request.claims ≡ Some claims_bytes
  pub claimed : OpenClaimedBy request.check.analysis posed table_bytes claims_bytes text
