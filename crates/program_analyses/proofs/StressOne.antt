-- `stress` has one outcome.
use Rattle.std.proofs.Common.{◌≡◌, ◌∙◌, ℕ, ◌+◌, List, [], ◌∷◌, Some, refl, sym, ap, subst}
use Rattle.std.specs.Prelude.{Result, Ok, Err}
use Rattle.support_command_line.specs.declared.bases.BaseName.{BaseName}
use Rattle.support_command_line.specs.Requests.{StressRequest}
use Rattle.spec_ir.specs.declared.spec.Machine.{Machine as Numbers}
use Rattle.spec_ir.specs.declared.spec.SpecUse.TheVariants.{Machine}
use Rattle.spec_ir.specs.Specification.{Spec}
use Rattle.code_image.specs.declared.order.Order.TheVariants.{Big}
use Rattle.code_image.specs.Faults.{image_fault}
use Rattle.code_image.specs.Image.{code_at}
use Rattle.state_text.specs.declared.stop.Stop.{Stop}
use Rattle.state_text.specs.declared.stop.Stop.TheVariants.{Bound, Left, Undecodable, Turns}
use Rattle.state_text.specs.Reading.{read}
use Rattle.semantics_values.specs.States.{State}
use Rattle.concrete_emulator.specs.Ends.{IsStateOf, stop_at}
use Rattle.semantics.specs.Runs as r
use Rattle.semantics.specs.Runs.{Ended}
use Rattle.semantics_laws.specs.Accepted.{IsAccepted}
use Rattle.semantics_laws.proofs.Kept.{runs_keep_types}
use Rattle.state_text.specs.Stops.{stop_name}
use Rattle.program_stress_code.specs.Entry.{entry_text, start_text}
use Rattle.program_stress_code.specs.Summary.{summary_text}
use Rattle.program_domains.specs.Named.{Measured}
use Rattle.program_domains.proofs.Measures.{measures_are_one, measures_have_some}
use Rattle.program_common.specs.Outcome.{Answer, Refusal, calls_ended, text, undecodable}
use Rattle.program_common.specs.Shipped.{power_pc_text}
use Rattle.program_common.specs.Sources.{Specifies}
use Rattle.program_common.specs.Steps.{Then, goes_on, refused}
use Rattle.program_common.proofs.OneSource.{one_specified, some_specified}
use Rattle.program_common.proofs.Steps.{IsOne, IsTotal, one, total}
use Rattle.program_machine.specs.Code.{Images, imaged}
use Rattle.program_machine.specs.Entry.{entered, state_in}
use Rattle.program_machine.specs.Running.{end_of}
use Rattle.program_machine.proofs.Giving.{specified_accepted}
use Rattle.program_machine.specs.AnalysisEntry.{Enters}
use Rattle.program_machine.specs.Inputs.{AnalysisInputs}
use Rattle.program_machine.proofs.Problems.{some_machine}
use Rattle.program_analyses.specs.StressLaws.{StressHasOne, StressHasSome}
use Rattle.program_analyses.specs.Made.{MadeOf, StartOf, made_code}
use Rattle.program_analyses.specs.StressSteps.{IsSummary, MeasureOf, SummaryOf, problem_made, stress_cases, stress_joins, stress_limit, stress_turns}
use Rattle.program_analyses.proofs.Making.{made_has_machine, made_is_well_posed, made_parts, started_typed}

-- ---- where the first step gives one thing, and the next does of what it gives

module _ {A B : Type 0} (first : Result A Refusal → Type 0) (next : A → Result B Refusal → Type 0) where
  one_next : IsOne first → ((given : A) → first (Ok given) → IsOne (next given)) → IsOne (Then first next)
  one_next one_first one_further found other (refused {refusal = e} p) (refused {refusal = f} q) = let same = one_first (Err e) (Err f) p q in (cc)
  one_next one_first one_further found other (refused {refusal = e} p) (goes_on {given = a} q r) = let same = one_first (Err e) (Ok a) p q in absurd (cc)
  one_next one_first one_further found other (goes_on {given = a} p r) (refused {refusal = e} q) = let same = one_first (Ok a) (Err e) p q in absurd (cc)
  one_next one_first one_further found other (goes_on {given = a} p r) (goes_on {given = b} q t) =
      let same = one_first (Ok a) (Ok b) p q in
      let given : a ≡ b = cc in
      one_further b q found other (subst (λ (x : A). next x found) given r) t

one_machine : (spec : Spec) (m n : Numbers) → spec.machine ≡ Some m → spec.machine ≡ Some n → m ≡ n
one_machine spec m n p q = let same : Some m ≡ Some n = sym p ∙ q in cc

-- ---- what is made

module _ (request : StressRequest) where
  one_made : IsOne (MadeOf request)
  one_made =
      one (Specifies Machine power_pc_text) _ (one_specified Machine power_pc_text) (λ spec.
      one (Images Big (made_code request ∷ [])) _ (λ found other p q. p ∙ sym q) (λ image.
      one (Enters spec entry_text) _ (λ found other p q. p ∙ sym q) (λ entry found other p q. p ∙ sym q)))

  some_made : IsTotal (MadeOf request)
  some_made =
      total (Specifies Machine power_pc_text) _ (some_specified Machine power_pc_text) (λ spec specified.
      total (Images Big (made_code request ∷ [])) _ (imaged Big (made_code request ∷ []) (image_fault (made_code request ∷ [])), refl) (λ image is.
      total (Enters spec entry_text) _ (entered (read spec entry_text), refl) (λ entry is. (Ok (record { spec = spec; image = image; entry = entry }), refl))))

-- ---- what is measured

module _ (request : StressRequest) (posed : AnalysisInputs) (is : MadeOf request (Ok posed)) where
  one_measure : IsOne (MeasureOf request.base posed)
  one_measure found other h k =
      let same = one_machine posed.spec h.machine k.machine h.is_machine k.is_machine in
      measures_are_one posed.image (problem_made posed k.machine) request.base found other (made_is_well_posed request posed k.machine stress_limit stress_joins stress_cases is k.is_machine)
      (subst (λ (m : Numbers). Measured posed.image (problem_made posed m) request.base found) same h.measured) k.measured

  some_measure : IsTotal (MeasureOf request.base posed)
  some_measure =
      let m = some_machine posed.spec.machine (made_has_machine request posed is) in
      let found = measures_have_some posed.image (problem_made posed m.0) request.base (made_is_well_posed request posed m.0 stress_limit stress_joins stress_cases is m.1) in
      (found.0, record { machine = m.0; is_machine = m.1; measured = found.1 })

-- ---- summaries

module _ (count : ℕ) (posed : AnalysisInputs) (start : State) where
  abbrev End : Numbers → Ended
  End m = end_of posed.spec m posed.image stress_turns (count + 1) start

  one_text : (measured bytes other : List ℕ) → IsSummary count posed start measured bytes → IsSummary count posed start measured other → bytes ≡ other
  one_text measured bytes other h k =
      let same = one_machine posed.spec h.machine k.machine h.is_machine k.is_machine in
      let why : stop_at (End k.machine).state.pc (End k.machine).stop ≡ Some h.stop = subst (λ (m : Numbers). stop_at (End m).state.pc (End m).stop ≡ Some h.stop) same h.why in
      let some : Some h.stop ≡ Some k.stop = sym why ∙ k.why in
      let stops : h.stop ≡ k.stop = cc in
      h.told ∙ ap (λ (m : Numbers). summary_text count measured (End m).done (stop_name h.stop)) same ∙ ap (λ (stop : Stop). summary_text count measured (End k.machine).done (stop_name stop)) stops ∙ sym k.told

  one_summary : (answer : Answer) → IsOne (SummaryOf count posed start answer)
  one_summary (text measured) (Ok (text bytes)) (Ok (text other)) h k = ap (λ (x : List ℕ). Ok (text x)) (one_text measured bytes other h k)
  one_summary (text measured) (Ok (text bytes)) (Ok (undecodable other)) h k = absurd k
  one_summary (text measured) (Ok (text bytes)) (Ok (calls_ended other)) h k = absurd k
  one_summary (text measured) (Ok (text bytes)) (Err refusal) h k = absurd k
  one_summary (text measured) (Ok (undecodable bytes)) other h k = absurd h
  one_summary (text measured) (Ok (calls_ended bytes)) other h k = absurd h
  one_summary (text measured) (Err refusal) other h k = absurd h
  one_summary (undecodable measured) found other h k = absurd h
  one_summary (calls_ended measured) found other h k = absurd h

pub stress_has_one : StressHasOne
stress_has_one request =
    one_next (MadeOf request) _ (one_made request) (λ posed is.
    one (StartOf posed) _ (λ found other p q. p ∙ sym q) (λ start.
    one (MeasureOf request.base posed) (SummaryOf request.count posed start) (one_measure request posed is) (λ answer. one_summary request.count posed start answer)))

-- ---- there is one

some_stop : (pc : ℕ) (stop : r.Stop) → ¬ (stop ≡ r.Stop.wrong) → (found : Stop) × (stop_at pc stop ≡ Some found)
some_stop pc r.Stop.bound right = (Bound, refl)
some_stop pc r.Stop.left right = (Left, refl)
some_stop pc (r.Stop.undecodable word) right = (Undecodable pc word, refl)
some_stop pc r.Stop.turns right = (Turns pc, refl)
some_stop pc r.Stop.wrong right = absurd (right refl)

module _ (count : ℕ) (posed : AnalysisInputs) (start : State) (base : BaseName) (ok : IsAccepted posed.spec) (typed : IsStateOf posed.spec start) where
  summary_for : (m : Numbers) → posed.spec.machine ≡ Some m → (measured : List ℕ) → (bytes : List ℕ) × IsSummary count posed start measured bytes
  summary_for m is_machine measured =
      let end = end_of posed.spec m posed.image stress_turns (count + 1) start in
      let kept = runs_keep_types posed.spec m (code_at posed.image) stress_turns (count + 1) start ok is_machine (typed m is_machine) in
      let stop = some_stop end.state.pc end.stop kept.right in
      (summary_text count measured end.done (stop_name stop.0), record { machine = m; is_machine = is_machine; stop = stop.0; why = stop.1; told = refl })

  some_summary : (answer : Answer) → MeasureOf base posed (Ok answer) → IsTotal (SummaryOf count posed start answer)
  some_summary (text measured) is = let found = summary_for is.machine is.is_machine measured in (Ok (text found.0), found.1)
  some_summary (undecodable measured) is = absurd is.measured
  some_summary (calls_ended measured) is = absurd is.measured

pub stress_has_some : StressHasSome
stress_has_some request =
    total (MadeOf request) _ (some_made request) (λ posed is.
    let ok = specified_accepted power_pc_text posed.spec (made_parts request posed is).spec in
    total (StartOf posed) _ (entered (state_in posed.spec (read posed.spec start_text)), refl) (λ start starts.
    total (MeasureOf request.base posed) (SummaryOf request.count posed start) (some_measure request posed is) (λ answer measured.
    some_summary request.count posed start request.base ok (started_typed posed.spec start_text start ok starts) answer measured)))
