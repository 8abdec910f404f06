-- The outcomes of the commands over the bytes that names hold, where code has no more parts than an image may have segments.
use Rattle.std.specs.Prelude.{◌≡◌, ◌⊎◌, ◌≤◌, Ok, length}
use Rattle.support_command_line.specs.Requests.{AnalyseRequest, CheckRequest, ClaimsRequest, ConvertRequest, SliceRequest}
use Rattle.program_domains.specs.Laws.{AreOne}
use Rattle.program_common.specs.Outcome.{Outcome}
use Rattle.program_common.specs.Reading.{Held, Holds}
use Rattle.program_machine.specs.Inputs.{CodeInputs, CodedOf, AnalysisInputs, PosedOf}
use Rattle.program_analyses.specs.Steps.{AnalyseSteps, CheckSteps, ClaimsSteps, ConvertSteps, SliceSteps}

-- They are one outcome of an analysis; over relations both may be texts of one table of the specification and the code that were read.
abbrev pub AreOneAnalysis : Held → AnalyseRequest → Outcome → Outcome → Type 0
AreOneAnalysis held request found other =
    (found ≡ other) ⊎ ((posed : AnalysisInputs) × PosedOf (Holds held) request.spec request.code request.entry (Ok posed) × AreOne request.base posed.spec posed.image found other)

-- So it is of a text that is written anew.
abbrev pub AreOneConversion : Held → ConvertRequest → Outcome → Outcome → Type 0
AreOneConversion held request found other =
    (found ≡ other) ⊎ ((coded : CodeInputs) × CodedOf (Holds held) request.spec request.code (Ok coded) × AreOne request.base coded.spec coded.image found other)

-- `analyse` has one outcome at most, left open or not, but that over affine relations two may be texts of its table
abbrev pub AnalyseHasOne : Type 0
AnalyseHasOne = (held : Held) (request : AnalyseRequest) (found other : Outcome) → length request.code.parts ≤ 16 → AnalyseSteps (Holds held) request found → AnalyseSteps (Holds held) request other → AreOneAnalysis held request found other

-- and at least one
abbrev pub AnalyseHasSome : Type 0
AnalyseHasSome = (held : Held) (request : AnalyseRequest) → length request.code.parts ≤ 16 → (found : Outcome) × AnalyseSteps (Holds held) request found

-- `check` has one
abbrev pub CheckHasOne : Type 0
CheckHasOne = (held : Held) (request : CheckRequest) (found other : Outcome) → length request.analysis.code.parts ≤ 16 → CheckSteps (Holds held) request found → CheckSteps (Holds held) request other → found ≡ other

abbrev pub CheckHasSome : Type 0
CheckHasSome = (held : Held) (request : CheckRequest) → length request.analysis.code.parts ≤ 16 → (found : Outcome) × CheckSteps (Holds held) request found

-- `convert` has one, as `analyse` has
abbrev pub ConvertHasOne : Type 0
ConvertHasOne = (held : Held) (request : ConvertRequest) (found other : Outcome) → length request.code.parts ≤ 16 → ConvertSteps (Holds held) request found → ConvertSteps (Holds held) request other → AreOneConversion held request found other

abbrev pub ConvertHasSome : Type 0
ConvertHasSome = (held : Held) (request : ConvertRequest) → length request.code.parts ≤ 16 → (found : Outcome) × ConvertSteps (Holds held) request found

-- `slice` has one, over relations too
abbrev pub SliceHasOne : Type 0
SliceHasOne = (held : Held) (request : SliceRequest) (found other : Outcome) → length request.check.analysis.code.parts ≤ 16 → SliceSteps (Holds held) request found → SliceSteps (Holds held) request other → found ≡ other

abbrev pub SliceHasSome : Type 0
SliceHasSome = (held : Held) (request : SliceRequest) → length request.check.analysis.code.parts ≤ 16 → (found : Outcome) × SliceSteps (Holds held) request found

-- and so has `claims`
abbrev pub ClaimsHasOne : Type 0
ClaimsHasOne = (held : Held) (request : ClaimsRequest) (found other : Outcome) → length request.check.analysis.code.parts ≤ 16 → ClaimsSteps (Holds held) request found → ClaimsSteps (Holds held) request other → found ≡ other

abbrev pub ClaimsHasSome : Type 0
ClaimsHasSome = (held : Held) (request : ClaimsRequest) → length request.check.analysis.code.parts ≤ 16 → (found : Outcome) × ClaimsSteps (Holds held) request found
