-- What a stress may be refused for.
use Rattle.std.proofs.Common.{◌≡◌, ℕ, List, [], ◌∷◌, Option, Some, None, refl, sym, subst}
use Rattle.std.specs.Prelude.{Result, Ok, Err}
use Rattle.support_command_line.specs.declared.bases.BaseName.{BaseName}
use Rattle.support_command_line.specs.Requests.{StressRequest}
use Rattle.spec_ir.specs.declared.spec.SpecUse.TheVariants.{Machine}
use Rattle.spec_ir.specs.Specification.{Spec}
use Rattle.code_image.specs.declared.image_error.ImageError.{ImageError}
use Rattle.code_image.specs.declared.order.Order.TheVariants.{Big}
use Rattle.code_image.specs.Faults.{image_fault}
use Rattle.code_image.specs.Image.{Image, Segment}
use Rattle.state_text.specs.declared.entry_error.EntryError.{EntryError}
use Rattle.state_text.specs.Reading.{read}
use Rattle.program_stress_code.specs.Entry.{entry_text, start_text}
use Rattle.semantics_values.specs.States.{State}
use Rattle.program_common.specs.Outcome.{Answer, Outcome, Refusal, bad_words, cannot_read, too_long, spec_refused, code_refused, entry_refused, calls_spent, undecodable_at, too_many_targets, table_refused, claims_refused, rejected, calls_ended, text, undecodable}
use Rattle.program_common.specs.Shipped.{power_pc_text}
use Rattle.program_common.specs.Sources.{Specifies}
use Rattle.program_common.specs.Steps.{Then, goes_on, refused}
use Rattle.program_machine.specs.Code.{Images, imaged}
use Rattle.program_machine.specs.Entry.{entered, state_in}
use Rattle.program_machine.specs.AnalysisEntry.{Enters}
use Rattle.program_machine.specs.Inputs.{AnalysisInputs}
use Rattle.program_analyses.specs.Made.{MadeOf, StartOf, made_code}
use Rattle.program_analyses.specs.StressSteps.{MeasureOf, StressSteps, SummaryOf}

abbrev pub MayStress : Refusal → Type 0
MayStress (spec_refused fault) = Unit {0}
MayStress (code_refused fault) = Unit {0}
MayStress (entry_refused fault) = Unit {0}
MayStress (undecodable_at at word) = Unit {0}
MayStress (too_many_targets at shown) = Unit {0}
MayStress _ = ⊥

abbrev May : {A : Type 0} → Result A Refusal → Type 0
May (Ok found) = Unit {0}
May (Err refusal) = MayStress refusal

module _ {A B : Type 0} (first : Result A Refusal → Type 0) (next : A → Result B Refusal → Type 0) where
  both_may : ((found : Result A Refusal) → first found → May found) → ((given : A) (found : Result B Refusal) → next given found → May found) → (found : Result B Refusal) → Then first next found → May found
  both_may by_first by_next found (refused {refusal = e} p) = by_first (Err e) p
  both_may by_first by_next found (goes_on {given = a} p r) = by_next a found r

-- ---- each step

specified_may : (source : List ℕ) (found : Result Spec Refusal) → Specifies Machine source found → May found
specified_may source (Ok spec) is = tt
specified_may source (Err (spec_refused fault)) is = tt
specified_may source (Err bad_words) is = absurd is
specified_may source (Err (cannot_read name)) is = absurd is
specified_may source (Err (too_long name)) is = absurd is
specified_may source (Err (code_refused fault)) is = absurd is
specified_may source (Err (entry_refused fault)) is = absurd is
specified_may source (Err calls_spent) is = absurd is
specified_may source (Err (undecodable_at at word)) is = absurd is
specified_may source (Err (too_many_targets at shown)) is = absurd is
specified_may source (Err (table_refused fault)) is = absurd is
specified_may source (Err (claims_refused fault)) is = absurd is
specified_may source (Err (rejected rejection)) is = absurd is

imaged_may : (segments : List Segment) (fault : Option ImageError) → May (imaged Big segments fault)
imaged_may segments None = tt
imaged_may segments (Some fault) = tt

images_may : (segments : List Segment) (found : Result Image Refusal) → Images Big segments found → May found
images_may segments found is = subst (λ (f : Result Image Refusal). May f) (sym is) (imaged_may segments (image_fault segments))

entered_may : {A : Type 0} (found : Result A EntryError) → May (entered found)
entered_may (Ok found) = tt
entered_may (Err fault) = tt

found_may : {A : Type 0} (read : Result A EntryError) (found : Result A Refusal) → found ≡ entered read → May found
found_may {A} read found is = subst (λ (f : Result A Refusal). May f) (sym is) (entered_may read)

posed_may : (posed : AnalysisInputs) (found : Result AnalysisInputs Refusal) → found ≡ Ok posed → May found
posed_may posed found is = subst (λ (f : Result AnalysisInputs Refusal). May f) (sym is) tt

measured_may : (base : BaseName) (posed : AnalysisInputs) (found : Outcome) → MeasureOf base posed found → May found
measured_may base posed (Ok answer) is = tt
measured_may base posed (Err (undecodable_at at word)) is = tt
measured_may base posed (Err (too_many_targets at shown)) is = tt
measured_may base posed (Err bad_words) is = absurd is.measured
measured_may base posed (Err (cannot_read name)) is = absurd is.measured
measured_may base posed (Err (too_long name)) is = absurd is.measured
measured_may base posed (Err (spec_refused fault)) is = absurd is.measured
measured_may base posed (Err (code_refused fault)) is = absurd is.measured
measured_may base posed (Err (entry_refused fault)) is = absurd is.measured
measured_may base posed (Err calls_spent) is = absurd is.measured
measured_may base posed (Err (table_refused fault)) is = absurd is.measured
measured_may base posed (Err (claims_refused fault)) is = absurd is.measured
measured_may base posed (Err (rejected rejection)) is = absurd is.measured

summary_may : (count : ℕ) (posed : AnalysisInputs) (start : State) (answer : Answer) (found : Outcome) → SummaryOf count posed start answer found → May found
summary_may count posed start answer (Ok found) is = tt
summary_may count posed start (text measured) (Err refusal) is = absurd is
summary_may count posed start (undecodable measured) (Err refusal) is = absurd is
summary_may count posed start (calls_ended measured) (Err refusal) is = absurd is

-- ---- all of them

made_may : (request : StressRequest) (found : Result AnalysisInputs Refusal) → MadeOf request found → May found
made_may request =
    both_may (Specifies Machine power_pc_text) _ (specified_may power_pc_text) (λ spec.
    both_may (Images Big (made_code request ∷ [])) _ (images_may (made_code request ∷ [])) (λ image.
    both_may (Enters spec entry_text) _ (found_may (read spec entry_text)) (λ entry. posed_may (record { spec = spec; image = image; entry = entry }))))

all_may : (request : StressRequest) (found : Outcome) → StressSteps request found → May found
all_may request =
    both_may (MadeOf request) _ (made_may request) (λ posed.
    both_may (StartOf posed) _ (found_may (state_in posed.spec (read posed.spec start_text))) (λ start.
    both_may (MeasureOf request.base posed) (SummaryOf request.count posed start) (measured_may request.base posed) (summary_may request.count posed start)))

pub stress_stops : (request : StressRequest) (refusal : Refusal) → StressSteps request (Err refusal) → MayStress refusal
stress_stops request refusal is = all_may request (Err refusal) is
