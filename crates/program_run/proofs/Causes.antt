-- The cause of each outcome, whatever the inputs hold.
use Rattle.std.proofs.Common.{◌≡◌, ◌≢◌, ℕ, All, List, [], ◌∷◌, ◌++◌, Option, Some, None, IsTrue, append_assoc, refl, sym, subst, arith}
use Rattle.std.specs.Prelude.{Contains, Result, Ok, Err}
use Rattle.std.proofs.lemmas.List.Elements.{All-cons, All-contains, All-nil, Contains-append_left, Contains-append_right}
use Rattle.support_io.specs.InputState.{InputState}
use Rattle.support_command_line.specs.Code.{Code, CodePart}
use Rattle.support_command_line.specs.Requests.{AnalyseRequest, CallRequest, CheckRequest, ClaimsRequest, ConvertRequest, EmulateRequest, ListRequest, Request, SliceRequest, StressRequest, call, emulate, analyse, check, convert, list, slice, claims, stress}
use Rattle.support_command_line.specs.SpecNames.{SpecName, input, power_pc, risc_v}
use Rattle.concrete_function_calls.specs.Calls as calls
use Rattle.concrete_function_calls.specs.Calls.{call_end, spent, value, value_line}
use Rattle.concrete_function_calls.proofs.Written.{values_are_written}
use Rattle.code_image.specs.declared.image_error.ImageError.{ImageError}
use Rattle.code_image.specs.declared.image_error.ImageError.TheVariants as imaging
use Rattle.code_image.specs.Faults.{image_fault}
use Rattle.code_image.specs.Image.{Image, Segment}
use Rattle.spec_ir.specs.declared.spec.SpecUse.{SpecUse}
use Rattle.spec_ir.specs.declared.spec.SpecUse.TheVariants.{Library, Machine}
use Rattle.spec_ir.specs.Specification.{Spec}
use Rattle.state_text.specs.declared.entry_error.EntryError.{EntryError}
use Rattle.state_text.specs.declared.entry_error.EntryError.TheVariants as entering
use Rattle.state_text.specs.Reading.{Entry, read}
use Rattle.semantics_values.specs.States.{State}
use Rattle.program_common.specs.Outcome.{Outcome, Refusal, bad_words, cannot_read, too_long, spec_refused, code_refused, entry_refused, calls_spent, undecodable_at, too_many_targets, table_refused, claims_refused, rejected}
use Rattle.program_common.specs.Reading as reading
use Rattle.program_common.specs.Reading.{Capped, CouldNotRead, Gave}
use Rattle.program_common.specs.Sources.{IsSpecification, SourceOf, Specifies, source_cap, source_inputs}
use Rattle.program_common.specs.Steps.{Then, refused, goes_on}
use Rattle.program_machine.specs.Code.{CodeOf, Images, Joins, SegmentsOf, code_cap, imaged, order_of, part_inputs}
use Rattle.program_machine.specs.Entry.{StartOf, StartsFrom, entered, entry_cap, state_in}
use Rattle.program_machine.specs.Machines.{MachineOf}
use Rattle.program_machine.specs.Running.{Runs}
use Rattle.program_machine.specs.Steps.{EmulateSteps, ListSteps}
use Rattle.program_machine.proofs.Chains.{AfterCode, AfterMachine, AfterStart, Lists, ListsOf, Rest}
use Rattle.program_analyses.specs.Steps.{AnalyseSteps, AnalysisOf, CheckOf, CheckSteps, ClaimsOf, ClaimsSteps, ConversionOf, ConvertSteps, SliceOf, SliceSteps, analyse_inputs, check_inputs}
use Rattle.program_analyses.proofs.Chains.{both_behind, claims_behind, table_behind}
use Rattle.program_domains.proofs.Verdicts.{MayStop}
use Rattle.program_analyses.proofs.Stops.{analysis_stops, check_stops, claims_stop, conversion_stops, slice_stops}
use Rattle.text_slices.specs.Asked.{asked}
use Rattle.text_slices.specs.declared.slice_cell.SliceCell.{SliceCell}
use Rattle.program_analyses.specs.StressSteps.{StressSteps}
use Rattle.program_analyses.proofs.StressStops.{MayStress, stress_stops}
use Rattle.program_machine.specs.Cells.{CellOf, some_cell}
use Rattle.program_machine.specs.AnalysisEntry.{Enters, EntryOf}
use Rattle.program_machine.specs.Inputs.{CodeInputs, CodedOf, AnalysisInputs, PosedOf, PosedWith, SliceInputs, SoughtOf, claims_cap, coded_inputs, posed_inputs, table_cap}
use Rattle.program_machine.proofs.InputChains.{code_behind, entry_behind, entry_with, posed_and_cell, sought_behind}
use Rattle.program_run.specs.Possible.{Answers, IsOfSource, MayBeBad, MayComeTo}
use Rattle.program_run.specs.Steps.{CallSteps, Steps, answered}
use Rattle.program_run.specs.Words.{capped_in, has_code, has_entry, names_in, names_of}
use Rattle.program_run.proofs.Chain.{Called, Ended}
use Rattle.program_run.proofs.Faults.{entry_told, image_told, source_told, start_told, work_told}
use Rattle.program_run.proofs.Giving.{is_accepted}
use Rattle.program_run.proofs.Others.{only}

-- ---- names

all_named : (xs : List Capped) (ns : List (List ℕ)) → ((name : List ℕ) → Contains (names_of xs) name → Contains ns name) → All (λ (x : Capped). Contains ns x.0) xs
all_named [] ns among = All-nil (λ (x : Capped). Contains ns x.0)
all_named (x ∷ xs) ns among =
    All-cons (λ (x : Capped). Contains ns x.0) x xs (among x.0 (0, omega arith, refl)) (all_named xs ns (λ name named. among name (Contains-append_right (x.0 ∷ []) (names_of xs) name named)))

-- the name of an input
pub is_named : (xs : List Capped) (name : List ℕ) (cap : ℕ) → Contains xs (name, cap) → Contains (names_of xs) name
is_named xs name cap named = All-contains (λ (x : Capped). Contains (names_of xs) x.0) xs (name, cap) (all_named xs (names_of xs) (λ name named. named)) named

-- ---- steps that end with something known

abbrev pub Knows : {A : Type 0} → (Refusal → Type 0) → (A → Type 0) → Result A Refusal → Type 0
Knows cause good (Ok found) = good found
Knows cause good (Err refusal) = cause refusal

abbrev Anything : {A : Type 0} → A → Type 0
Anything found = Unit {0}

module _ {A B : Type 0} (first : Result A Refusal → Type 0) (next : A → Result B Refusal → Type 0) (cause : Refusal → Type 0) (good : B → Type 0) where
  both_know : ((found : Result A Refusal) → first found → Knows cause Anything found) → ((given : A) → first (Ok given) → (found : Result B Refusal) → next given found → Knows cause good found)
      → (found : Result B Refusal) → Then first next found → Knows cause good found
  both_know by_first by_next found (refused {refusal = e} p) = by_first (Err e) p
  both_know by_first by_next found (goes_on {given = a} p r) = by_next a p found r

-- ---- the cause of each refusal

module _ (old new : InputState) (what : Option Request) where
  abbrev pub Cause : Refusal → Type 0
  Cause bad_words = MayBeBad what
  Cause (cannot_read name) = Contains (names_in what) name × CouldNotRead old new name
  Cause (too_long name) = Contains (names_in what) name
  Cause (spec_refused fault) = IsOfSource fault
  Cause (code_refused fault) = IsTrue (has_code what) × (fault ≢ imaging.NoMemory)
  Cause (entry_refused fault) = IsTrue (has_entry what) × (fault ≢ entering.NoMemory)
  Cause calls_spent = Unit {0}
  Cause (undecodable_at at word) = MayComeTo what (Err (undecodable_at at word))
  Cause (too_many_targets at shown) = MayComeTo what (Err (too_many_targets at shown))
  Cause (table_refused fault) = MayComeTo what (Err (table_refused fault))
  Cause (claims_refused fault) = MayComeTo what (Err (claims_refused fault))
  Cause (rejected rejection) = MayComeTo what (Err (rejected rejection))

  abbrev KnowsCause : {A : Type 0} → Result A Refusal → Type 0
  KnowsCause found = Knows Cause Anything found

  reading_known : (cap : ℕ) (name : List ℕ) → Contains (capped_in what) (name, cap) → (found : Result (List ℕ) Refusal) → Gave old new cap name found → KnowsCause found
  reading_known cap name named found (reading.whole holds fits) = tt
  reading_known cap name named found (reading.long far) = is_named (capped_in what) name cap named
  reading_known cap name named found (reading.unread why) = (is_named (capped_in what) name cap named, why)

  -- these inputs are of those of what is asked for
  abbrev Among : List Capped → Type 0
  Among inputs = (x : Capped) → Contains inputs x → Contains (capped_in what) x

  first_among : (xs ys : List Capped) → Among (xs ++ ys) → Among xs
  first_among xs ys among x named = among x (Contains-append_left xs ys x named)

  behind_among : (xs ys : List Capped) → Among (xs ++ ys) → Among ys
  behind_among xs ys among x named = among x (Contains-append_right xs ys x named)

  source_known : (spec : SpecName) → Among (source_inputs spec) → (found : Result (List ℕ) Refusal) → SourceOf (Gave old new) spec found → KnowsCause found
  source_known (input name) among found gave = reading_known source_cap name (among (name, source_cap) (only (name, source_cap))) found gave
  source_known power_pc among found is = subst (λ (f : Result (List ℕ) Refusal). KnowsCause f) (sym is) tt
  source_known risc_v among found is = subst (λ (f : Result (List ℕ) Refusal). KnowsCause f) (sym is) tt

  specified_known : (wanted : SpecUse) (source : List ℕ) (found : Result Spec Refusal) → Specifies wanted source found → KnowsCause found
  specified_known wanted source (Ok spec) p = tt
  specified_known wanted source (Err bad_words) p = absurd p
  specified_known wanted source (Err (cannot_read name)) p = absurd p
  specified_known wanted source (Err (too_long name)) p = absurd p
  specified_known wanted source (Err (spec_refused fault)) p = source_told wanted source fault p
  specified_known wanted source (Err (code_refused fault)) p = absurd p
  specified_known wanted source (Err (entry_refused fault)) p = absurd p
  specified_known wanted source (Err calls_spent) p = tt
  specified_known wanted source (Err (undecodable_at at word)) p = absurd p
  specified_known wanted source (Err (too_many_targets at shown)) p = absurd p
  specified_known wanted source (Err (table_refused fault)) p = absurd p
  specified_known wanted source (Err (claims_refused fault)) p = absurd p
  specified_known wanted source (Err (rejected rejection)) p = absurd p

  machine_known : (spec : SpecName) → Among (source_inputs spec) → (found : Result Spec Refusal) → MachineOf (Gave old new) spec found → KnowsCause found
  machine_known spec among found steps =
      both_know (SourceOf (Gave old new) spec) (Specifies Machine) Cause Anything (source_known spec among) (λ source gave found further. specified_known Machine source found further) found steps

  joined_known : (base : ℕ) (bytes : List ℕ) (segments : List Segment) (found : Result (List Segment) Refusal) → Joins base bytes segments found → KnowsCause found
  joined_known base bytes segments found is = subst (λ (f : Result (List Segment) Refusal). KnowsCause f) (sym is) tt

  segments_known : (parts : List CodePart) → Among (part_inputs parts) → (found : Result (List Segment) Refusal) → SegmentsOf (Gave old new) parts found → KnowsCause found
  segments_known [] among found is = subst (λ (f : Result (List Segment) Refusal). KnowsCause f) (sym is) tt
  segments_known (part ∷ parts) among found steps =
      both_know (Gave old new code_cap part.name) (Rest (Gave old new) part parts) Cause Anything
      (reading_known code_cap part.name (among (part.name, code_cap) (Contains-append_left ((part.name, code_cap) ∷ []) (part_inputs parts) (part.name, code_cap) (only (part.name, code_cap)))))
      (λ bytes gave. both_know (SegmentsOf (Gave old new) parts) (Joins part.base bytes) Cause Anything
      (segments_known parts (behind_among ((part.name, code_cap) ∷ []) (part_inputs parts) among)) (λ segments given found further. joined_known part.base bytes segments found further)) found steps

  by_fault : IsTrue (has_code what) → (code : Code) (segments : List Segment) (fault : Option ImageError) → image_fault segments ≡ fault → KnowsCause (imaged (order_of code.order) segments fault)
  by_fault has code segments None is = tt
  by_fault has code segments (Some fault) is = (has, image_told segments fault is)

  images_known : IsTrue (has_code what) → (code : Code) (segments : List Segment) (found : Result Image Refusal) → Images (order_of code.order) segments found → KnowsCause found
  images_known has code segments found is =
      subst (λ (f : Result Image Refusal). KnowsCause f) (sym is) (by_fault has code segments (image_fault segments) refl)

  code_known : IsTrue (has_code what) → (code : Code) → Among (part_inputs code.parts) → (found : Result Image Refusal) → CodeOf (Gave old new) code found → KnowsCause found
  code_known has code among found steps =
      both_know (SegmentsOf (Gave old new) code.parts) (Images (order_of code.order)) Cause Anything (segments_known code.parts among) (λ segments given found further. images_known has code segments found further) found steps

  entered_known : {A : Type 0} → IsTrue (has_entry what) → (found : Result A EntryError) → ((error : EntryError) → found ≡ Err error → error ≢ entering.NoMemory) → KnowsCause (entered found)
  entered_known has (Ok found) told = tt
  entered_known has (Err fault) told = (has, told fault refl)

  starts_known : IsTrue (has_entry what) → (spec : Spec) (bytes : List ℕ) (found : Result State Refusal) → StartsFrom spec bytes found → KnowsCause found
  starts_known has spec bytes found is = subst (λ (f : Result State Refusal). KnowsCause f) (sym is) (entered_known has (state_in spec (read spec bytes)) (start_told spec bytes))

  start_known : IsTrue (has_entry what) → (spec : Spec) (name : List ℕ) → Among ((name, entry_cap) ∷ []) → (found : Result State Refusal) → StartOf (Gave old new) spec name found → KnowsCause found
  start_known has spec name among found steps =
      both_know (Gave old new entry_cap name) (StartsFrom spec) Cause Anything (reading_known entry_cap name (among (name, entry_cap) (only (name, entry_cap)))) (λ bytes gave found further. starts_known has spec bytes found further) found steps

  enters_known : IsTrue (has_entry what) → (spec : Spec) (bytes : List ℕ) (found : Result Entry Refusal) → Enters spec bytes found → KnowsCause found
  enters_known has spec bytes found is = subst (λ (f : Result Entry Refusal). KnowsCause f) (sym is) (entered_known has (read spec bytes) (entry_told spec bytes))

  entry_known : IsTrue (has_entry what) → (spec : Spec) (name : List ℕ) → Among ((name, entry_cap) ∷ []) → (found : Result Entry Refusal) → EntryOf (Gave old new) spec name found → KnowsCause found
  entry_known has spec name among found steps =
      both_know (Gave old new entry_cap name) (Enters spec) Cause Anything (reading_known entry_cap name (among (name, entry_cap) (only (name, entry_cap)))) (λ bytes gave found further. enters_known has spec bytes found further) found steps

  coded_known : IsTrue (has_code what) → (spec : SpecName) (code : Code) → Among (coded_inputs spec code) → (found : Result CodeInputs Refusal) → CodedOf (Gave old new) spec code found → KnowsCause found
  coded_known has spec code among found steps =
      let sources = source_inputs spec in
      let parts = part_inputs code.parts in
      both_know (MachineOf (Gave old new) spec) (λ s. code_behind code s (Gave old new)) Cause Anything (machine_known spec (first_among sources parts among)) (λ s specified.
      both_know (CodeOf (Gave old new) code) (λ image found. found ≡ Ok (record { spec = s; image = image })) Cause Anything (code_known has code (behind_among sources parts among)) (λ image imaged found is.
      subst (λ (f : Result CodeInputs Refusal). KnowsCause f) (sym is) tt)) found steps

  posed_known : IsTrue (has_code what) → IsTrue (has_entry what) → (spec : SpecName) (code : Code) (entry : List ℕ) → Among (posed_inputs spec code entry) → (found : Result AnalysisInputs Refusal) → PosedOf (Gave old new) spec code entry found → KnowsCause found
  posed_known has enters spec code entry among found steps =
      let coded = coded_inputs spec code in
      let rest = (entry, entry_cap) ∷ [] in
      both_know (CodedOf (Gave old new) spec code) (λ c. entry_behind entry c (Gave old new)) Cause Anything (coded_known has spec code (first_among coded rest among)) (λ c is_coded.
      both_know (EntryOf (Gave old new) c.spec entry) (λ e found. found ≡ Ok (record { spec = c.spec; image = c.image; entry = e })) Cause Anything (entry_known enters c.spec entry (behind_among coded rest among)) (λ e entered found is.
      subst (λ (f : Result AnalysisInputs Refusal). KnowsCause f) (sym is) tt)) found steps

  posed_with_known : IsTrue (has_code what) → IsTrue (has_entry what) → (spec : Spec) (code : Code) (entry : List ℕ) → Among (part_inputs code.parts ++ (entry, entry_cap) ∷ []) → (found : Result AnalysisInputs Refusal)
      → PosedWith (Gave old new) spec code entry found → KnowsCause found
  posed_with_known has enters spec code entry among found steps =
      let parts = part_inputs code.parts in
      let rest = (entry, entry_cap) ∷ [] in
      both_know (CodeOf (Gave old new) code) (λ image. entry_with code entry spec image (Gave old new)) Cause Anything (code_known has code (first_among parts rest among)) (λ image imaged.
      both_know (EntryOf (Gave old new) spec entry) (λ e found. found ≡ Ok (record { spec = spec; image = image; entry = e })) Cause Anything (entry_known enters spec entry (behind_among parts rest among)) (λ e entered found is.
      subst (λ (f : Result AnalysisInputs Refusal). KnowsCause f) (sym is) tt)) found steps

  -- a cell, where the words may be bad if the states have none
  cell_known : (spec : Spec) (cell : List ℕ) → ((s : Spec) → asked s cell ≡ None → MayBeBad what) → (found : Result SliceCell Refusal) → CellOf spec cell found → KnowsCause found
  cell_known spec cell bad found is = subst (λ (f : Result SliceCell Refusal). KnowsCause f) (sym is) (by (asked spec cell) refl)
    where
      by : (cells : Option SliceCell) → asked spec cell ≡ cells → KnowsCause (some_cell cells)
      by None none = bad spec none
      by (Some one) there = tt

  sought_known : IsTrue (has_code what) → IsTrue (has_entry what) → (spec : SpecName) (cell : List ℕ) (code : Code) (entry : List ℕ) → ((s : Spec) → asked s cell ≡ None → MayBeBad what) → Among (posed_inputs spec code entry)
      → (found : Result SliceInputs Refusal) → SoughtOf (Gave old new) spec cell code entry found → KnowsCause found
  sought_known has enters spec cell code entry bad among found steps =
      let sources = source_inputs spec in
      let parts = part_inputs code.parts in
      let rest = (entry, entry_cap) ∷ [] in
      let behind : Among (parts ++ rest) = behind_among sources (parts ++ rest) (subst (λ (xs : List Capped). Among xs) (append_assoc sources parts rest) among) in
      both_know (MachineOf (Gave old new) spec) (λ s. sought_behind cell code entry s (Gave old new)) Cause Anything (machine_known spec (first_among sources parts (first_among (sources ++ parts) rest among))) (λ s specified.
      both_know (CellOf s cell) (λ a. posed_and_cell cell code entry s a (Gave old new)) Cause Anything (cell_known s cell bad) (λ a is_asked.
      both_know (PosedWith (Gave old new) s code entry) (λ posed found. found ≡ Ok (record { posed = posed; asked = a })) Cause Anything (posed_with_known has enters s code entry behind) (λ posed is_posed found is.
      subst (λ (f : Result SliceInputs Refusal). KnowsCause f) (sym is) tt))) found steps

  -- a table, of whose bytes something is made
  table_known : (name : List ℕ) (made : List ℕ → Outcome → Type 0) → Among ((name, table_cap) ∷ []) → ((bytes : List ℕ) (outcome : Outcome) → made bytes outcome → Knows Cause (Answers what) outcome)
      → (outcome : Outcome) → table_behind name made (Gave old new) outcome → Knows Cause (Answers what) outcome
  table_known name made among by_bytes outcome steps =
      both_know (Gave old new table_cap name) made Cause (Answers what) (reading_known table_cap name (among (name, table_cap) (only (name, table_cap)))) (λ bytes gave found further. by_bytes bytes found further) outcome steps

  -- a table and claims, of whose bytes something is made
  claims_known : (table second : List ℕ) (made : List ℕ → List ℕ → Outcome → Type 0) → Among ((table, table_cap) ∷ []) → Among ((second, claims_cap) ∷ [])
      → ((bytes others : List ℕ) (outcome : Outcome) → made bytes others outcome → Knows Cause (Answers what) outcome) → (outcome : Outcome) → both_behind table second made (Gave old new) outcome → Knows Cause (Answers what) outcome
  claims_known table second made among further by_bytes outcome steps =
      both_know (Gave old new table_cap table) (λ bytes. claims_behind second (made bytes) (Gave old new)) Cause (Answers what) (reading_known table_cap table (among (table, table_cap) (only (table, table_cap)))) (λ bytes gave.
      both_know (Gave old new claims_cap second) (made bytes) Cause (Answers what) (reading_known claims_cap second (further (second, claims_cap) (only (second, claims_cap)))) (λ others given found is. by_bytes bytes others found is)) outcome steps

  -- what may stop work on a table has its cause in that work
  stop_known : (refusal : Refusal) → MayStop refusal → MayComeTo what (Err refusal) → Cause refusal
  stop_known (undecodable_at at word) may is = is
  stop_known (too_many_targets at shown) may is = is
  stop_known (table_refused fault) may is = is
  stop_known (claims_refused fault) may is = is
  stop_known (rejected rejection) may is = is
  stop_known _ may is = absurd may

-- ---- the commands

module _ (old new : InputState) where
  abbrev pub Caused : Option Request → Outcome → Type 0
  Caused what outcome = Knows (Cause old new what) (Answers what) outcome

  ended_known : (request : CallRequest) (source : List ℕ) (spec : Spec) → IsSpecification Library source spec
      → (end : calls.End) → call_end spec request.calls request.fun request.numbers ≡ end → Caused (Some (call request)) (answered end)
  ended_known request source spec specified (value v) is =
      record { value = v; written = values_are_written spec request.calls request.fun request.numbers v (is_accepted Library source spec specified) is; line = refl }
  ended_known request source spec specified calls.bad_words is = (spec, is)
  ended_known request source spec specified spent is = tt

  call_known : (request : CallRequest) (outcome : Outcome) → CallSteps (Gave old new) request outcome → Caused (Some (call request)) outcome
  call_known request outcome steps =
      let what = Some (call request) in
      both_know (SourceOf (Gave old new) request.spec) (Called request) (Cause old new what) (Answers what) (source_known old new what request.spec (λ x named. named)) (λ source gave.
      both_know (Specifies Library source) (Ended request) (Cause old new what) (Answers what) (specified_known old new what Library source) (λ spec specified found is.
      subst (λ (o : Outcome). Caused what o) (sym is) (ended_known request source spec specified (call_end spec request.calls request.fun request.numbers) refl))) outcome steps

  run_known : (request : EmulateRequest) (spec : Spec) (image : Image) (start : State) (outcome : Outcome) → Runs spec image request.calls request.steps start outcome → Caused (Some (emulate request)) outcome
  run_known request spec image start (Ok answer) runs = record { spec = spec; image = image; start = start; runs = runs }
  run_known request spec image start (Err refusal) runs = absurd runs

  emulate_known : (request : EmulateRequest) (outcome : Outcome) → EmulateSteps (Gave old new) request outcome → Caused (Some (emulate request)) outcome
  emulate_known request outcome steps =
      let what = Some (emulate request) in
      let sources = source_inputs request.spec in
      let parts = part_inputs request.code.parts in
      let entry = (request.entry, entry_cap) ∷ [] in
      both_know (MachineOf (Gave old new) request.spec) (AfterMachine (Gave old new) request) (Cause old new what) (Answers what)
      (machine_known old new what request.spec (first_among old new what sources parts (first_among old new what (sources ++ parts) entry (λ x named. named)))) (λ spec specified.
      both_know (CodeOf (Gave old new) request.code) (AfterCode (Gave old new) request spec) (Cause old new what) (Answers what)
      (code_known old new what refl request.code (behind_among old new what sources parts (first_among old new what (sources ++ parts) entry (λ x named. named)))) (λ image is_image.
      both_know (StartOf (Gave old new) spec request.entry) (AfterStart (Gave old new) request spec image) (Cause old new what) (Answers what)
      (start_known old new what refl spec request.entry (behind_among old new what (sources ++ parts) entry (λ x named. named))) (λ start started found further.
      run_known request spec image start found further))) outcome steps

  analysed_known : (request : AnalyseRequest) (posed : AnalysisInputs) (outcome : Outcome) → AnalysisOf request posed outcome → Caused (Some (analyse request)) outcome
  analysed_known request posed (Ok answer) is = record { posed = posed; analysed = is }
  analysed_known request posed (Err refusal) is =
      stop_known old new (Some (analyse request)) refusal (analysis_stops request posed refusal is) (record { posed = posed; analysed = is })

  analyse_known : (request : AnalyseRequest) (outcome : Outcome) → AnalyseSteps (Gave old new) request outcome → Caused (Some (analyse request)) outcome
  analyse_known request outcome steps =
      let what = Some (analyse request) in
      both_know (PosedOf (Gave old new) request.spec request.code request.entry) (AnalysisOf request) (Cause old new what) (Answers what)
      (posed_known old new what refl refl request.spec request.code request.entry (λ x named. named)) (λ posed is_posed found is. analysed_known request posed found is) outcome steps

  checked_known : (request : CheckRequest) (posed : AnalysisInputs) (bytes : List ℕ) (outcome : Outcome) → CheckOf request.analysis posed bytes outcome → Caused (Some (check request)) outcome
  checked_known request posed bytes (Ok answer) is = record { posed = posed; bytes = bytes; checked = is }
  checked_known request posed bytes (Err refusal) is =
      stop_known old new (Some (check request)) refusal (check_stops request.analysis posed bytes refusal is) (record { posed = posed; bytes = bytes; checked = is })

  check_known : (request : CheckRequest) (outcome : Outcome) → CheckSteps (Gave old new) request outcome → Caused (Some (check request)) outcome
  check_known request outcome steps =
      let what = Some (check request) in
      let wanted = request.analysis in
      let posed = analyse_inputs wanted in
      let table = (request.table, table_cap) ∷ [] in
      both_know (PosedOf (Gave old new) wanted.spec wanted.code wanted.entry) (λ p. table_behind request.table (CheckOf wanted p) (Gave old new)) (Cause old new what) (Answers what)
      (posed_known old new what refl refl wanted.spec wanted.code wanted.entry (first_among old new what posed table (λ x named. named))) (λ p is_posed found further.
      table_known old new what request.table (CheckOf wanted p) (behind_among old new what posed table (λ x named. named)) (checked_known request p) found further) outcome steps

  converted_known : (request : ConvertRequest) (coded : CodeInputs) (bytes : List ℕ) (outcome : Outcome) → ConversionOf request.base coded bytes outcome → Caused (Some (convert request)) outcome
  converted_known request coded bytes (Ok answer) is = record { coded = coded; bytes = bytes; converted = is }
  converted_known request coded bytes (Err refusal) is =
      stop_known old new (Some (convert request)) refusal (conversion_stops request.base coded bytes refusal is) (record { coded = coded; bytes = bytes; converted = is })

  convert_known : (request : ConvertRequest) (outcome : Outcome) → ConvertSteps (Gave old new) request outcome → Caused (Some (convert request)) outcome
  convert_known request outcome steps =
      let what = Some (convert request) in
      let coded = coded_inputs request.spec request.code in
      let table = (request.table, table_cap) ∷ [] in
      both_know (CodedOf (Gave old new) request.spec request.code) (λ c. table_behind request.table (ConversionOf request.base c) (Gave old new)) (Cause old new what) (Answers what)
      (coded_known old new what refl request.spec request.code (first_among old new what coded table (λ x named. named))) (λ c is_coded found further.
      table_known old new what request.table (ConversionOf request.base c) (behind_among old new what coded table (λ x named. named)) (converted_known request c) found further) outcome steps

  sliced_known : (request : SliceRequest) (sought : SliceInputs) (bytes : List ℕ) (outcome : Outcome) → SliceOf request.check.analysis sought request.address bytes outcome → Caused (Some (slice request)) outcome
  sliced_known request sought bytes (Ok answer) is = record { sought = sought; bytes = bytes; sliced = is }
  sliced_known request sought bytes (Err refusal) is =
      stop_known old new (Some (slice request)) refusal (slice_stops request.check.analysis sought request.address bytes refusal is) (record { sought = sought; bytes = bytes; sliced = is })

  slice_known : (request : SliceRequest) (outcome : Outcome) → SliceSteps (Gave old new) request outcome → Caused (Some (slice request)) outcome
  slice_known request outcome steps =
      let what = Some (slice request) in
      let wanted = request.check.analysis in
      let posed = analyse_inputs wanted in
      let table = (request.check.table, table_cap) ∷ [] in
      let made = λ (s : SliceInputs). SliceOf wanted s request.address in
      both_know (SoughtOf (Gave old new) wanted.spec request.cell wanted.code wanted.entry) (λ s. table_behind request.check.table (made s) (Gave old new)) (Cause old new what) (Answers what)
      (sought_known old new what refl refl wanted.spec request.cell wanted.code wanted.entry (λ s none. (s, none)) (first_among old new what posed table (λ x named. named))) (λ s is_sought found further.
      table_known old new what request.check.table (made s) (behind_among old new what posed table (λ x named. named)) (sliced_known request s) found further) outcome steps

  claimed_known : (request : ClaimsRequest) (posed : AnalysisInputs) (table_bytes claims_bytes : List ℕ) (outcome : Outcome) → ClaimsOf request.check.analysis posed table_bytes claims_bytes outcome → Caused (Some (claims request)) outcome
  claimed_known request posed table found (Ok answer) is = record { posed = posed; table_bytes = table; claims_bytes = found; claimed = is }
  claimed_known request posed table found (Err refusal) is =
      stop_known old new (Some (claims request)) refusal (claims_stop request.check.analysis posed table found refusal is) (record { posed = posed; table_bytes = table; claims_bytes = found; claimed = is })

  claim_known : (request : ClaimsRequest) (outcome : Outcome) → ClaimsSteps (Gave old new) request outcome → Caused (Some (claims request)) outcome
  claim_known request outcome steps =
      let what = Some (claims request) in
      let wanted = request.check.analysis in
      let posed = analyse_inputs wanted in
      let table = (request.check.table, table_cap) ∷ [] in
      let rest = (request.claims, claims_cap) ∷ [] in
      let front = first_among old new what (check_inputs request.check) rest (λ x named. named) in
      both_know (PosedOf (Gave old new) wanted.spec wanted.code wanted.entry) (λ p. both_behind request.check.table request.claims (ClaimsOf wanted p) (Gave old new)) (Cause old new what) (Answers what)
      (posed_known old new what refl refl wanted.spec wanted.code wanted.entry (first_among old new what posed table front)) (λ p is_posed found further.
      claims_known old new what request.check.table request.claims (ClaimsOf wanted p) (behind_among old new what posed table front) (behind_among old new what (check_inputs request.check) rest (λ x named. named))
      (claimed_known request p) found further) outcome steps

  list_known : (request : ListRequest) (outcome : Outcome) → ListSteps (Gave old new) request outcome → Caused (Some (list request)) outcome
  list_known request outcome steps =
      let what = Some (list request) in
      let sources = source_inputs request.spec in
      let parts = part_inputs request.code.parts in
      both_know (MachineOf (Gave old new) request.spec) (ListsOf (Gave old new) request) (Cause old new what) (Answers what)
      (machine_known old new what request.spec (first_among old new what sources parts (λ x named. named))) (λ spec specified.
      both_know (CodeOf (Gave old new) request.code) (Lists (Gave old new) request spec) (Cause old new what) (Answers what)
      (code_known old new what refl request.code (behind_among old new what sources parts (λ x named. named))) (λ image is_image found is.
      subst (λ (o : Outcome). Caused what o) (sym is) (record { spec = spec; image = image; lists = refl }))) outcome steps

  stress_refused : (request : StressRequest) (refusal : Refusal) → MayStress refusal → StressSteps request (Err refusal) → Cause old new (Some (stress request)) refusal
  stress_refused request (spec_refused fault) may is = work_told (Some (stress request)) (spec_refused fault) is
  stress_refused request (code_refused fault) may is = (refl, work_told (Some (stress request)) (code_refused fault) is)
  stress_refused request (entry_refused fault) may is = (refl, work_told (Some (stress request)) (entry_refused fault) is)
  stress_refused request (undecodable_at at word) may is = is
  stress_refused request (too_many_targets at shown) may is = is
  stress_refused request _ may is = absurd may

  stress_known : (request : StressRequest) (outcome : Outcome) → StressSteps request outcome → Caused (Some (stress request)) outcome
  stress_known request (Ok answer) is = is
  stress_known request (Err refusal) is = stress_refused request refusal (stress_stops request refusal is) is

  pub asked_known : (what : Option Request) (outcome : Outcome) → Steps (Gave old new) what outcome → Caused what outcome
  asked_known None outcome is = subst (λ (o : Outcome). Caused None o) (sym is) tt
  asked_known (Some (call request)) outcome steps = call_known request outcome steps
  asked_known (Some (emulate request)) outcome steps = emulate_known request outcome steps
  asked_known (Some (analyse request)) outcome steps = analyse_known request outcome steps
  asked_known (Some (check request)) outcome steps = check_known request outcome steps
  asked_known (Some (convert request)) outcome steps = convert_known request outcome steps
  asked_known (Some (list request)) outcome steps = list_known request outcome steps
  asked_known (Some (slice request)) outcome steps = slice_known request outcome steps
  asked_known (Some (claims request)) outcome steps = claim_known request outcome steps
  asked_known (Some (stress request)) outcome steps = stress_known request outcome steps
