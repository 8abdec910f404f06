-- What `stress` makes in place of inputs, and how it is examined.
use Rattle.std.specs.Prelude.{◌≡◌, [], ◌∷◌, Result, Ok}
use Rattle.support_command_line.specs.Requests.{StressRequest}
use Rattle.code_image.specs.Image.{Segment}
use Rattle.code_image.specs.declared.order.Order.TheVariants.{Big}
use Rattle.spec_ir.specs.declared.spec.SpecUse.TheVariants.{Machine}
use Rattle.program_stress_code.specs.Entry.{code_base, entry_text, start_text}
use Rattle.program_stress_code.specs.Words.{code_bytes}
use Rattle.semantics_values.specs.States.{State}
use Rattle.program_common.specs.Outcome.{Refusal}
use Rattle.program_common.specs.Shipped.{power_pc_text}
use Rattle.program_common.specs.Sources.{Specifies}
use Rattle.program_common.specs.Steps.{Then}
use Rattle.program_machine.specs.Code.{Images}
use Rattle.program_machine.specs.Entry.{StartsFrom}
use Rattle.program_machine.specs.AnalysisEntry.{Enters}
use Rattle.program_machine.specs.Inputs.{AnalysisInputs}

-- the code
abbrev pub made_code : StressRequest → Segment
made_code request = record { base = code_base; bytes = code_bytes request.number request.count }

-- The specification of PowerPC, the code and the entry, examined one after another as those are that are read.
abbrev pub MadeOf : StressRequest → Result AnalysisInputs Refusal → Type 0
MadeOf request =
    Then (Specifies Machine power_pc_text) (λ spec.
    Then (Images Big (made_code request ∷ [])) (λ image.
    Then (Enters spec entry_text) (λ entry found.
    found ≡ Ok (record { spec = spec; image = image; entry = entry }))))

-- the state from which the code runs: that of the entry with 0 in place of any
abbrev pub StartOf : AnalysisInputs → Result State Refusal → Type 0
StartOf posed = StartsFrom posed.spec start_text
