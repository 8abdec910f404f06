-- Steps over inputs that give what others give, or fail.
use Rattle.std.proofs.Common.{◌≡◌, ◌⊎◌, inl, ℕ, List, [], ◌∷◌, ◌++◌, Option, Some, None, append_assoc, refl, subst, arith}
use Rattle.std.specs.Prelude.{Contains, Result, Ok}
use Rattle.std.proofs.lemmas.List.Elements.{Contains-append_left, Contains-append_right}
use Rattle.support_command_line.specs.Code.{Code, CodePart}
use Rattle.support_command_line.specs.Requests.{AnalyseRequest, CallRequest, CheckRequest, ClaimsRequest, ConvertRequest, EmulateRequest, ListRequest, Request, SliceRequest, call, emulate, analyse, check, convert, list, slice, claims, stress}
use Rattle.support_command_line.specs.SpecNames.{SpecName, input, power_pc, risc_v}
use Rattle.code_image.specs.Image.{Image, Segment}
use Rattle.spec_ir.specs.declared.spec.SpecUse.TheVariants.{Machine}
use Rattle.spec_ir.specs.Specification.{Spec}
use Rattle.state_text.specs.Reading.{Entry}
use Rattle.semantics_values.specs.States.{State}
use Rattle.program_common.specs.Outcome.{Outcome, Refusal}
use Rattle.program_common.specs.Reading.{Capped, Reading}
use Rattle.program_common.specs.Sources.{SourceOf, Specifies, source_cap, source_inputs}
use Rattle.program_common.proofs.Steps.{Fails, either}
use Rattle.program_machine.specs.Code.{CodeOf, Images, Joins, SegmentsOf, code_cap, order_of, part_inputs}
use Rattle.program_machine.specs.Entry.{StartOf, StartsFrom, entry_cap}
use Rattle.program_machine.specs.Machines.{MachineOf}
use Rattle.program_machine.specs.Steps.{EmulateSteps, ListSteps, emulate_inputs, list_inputs}
use Rattle.program_machine.proofs.Chains.{AfterCode, AfterMachine, AfterStart, Lists, ListsOf, Rest}
use Rattle.program_analyses.specs.Steps.{AnalyseSteps, AnalysisOf, CheckOf, CheckSteps, ClaimsOf, ClaimsSteps, ConversionOf, ConvertSteps, SliceOf, SliceSteps, analyse_inputs, check_inputs, claims_inputs, convert_inputs, slice_inputs}
use Rattle.program_analyses.proofs.Chains.{both_behind, claims_behind, table_behind}
use Rattle.program_machine.specs.Cells.{CellOf}
use Rattle.program_machine.specs.AnalysisEntry.{Enters, EntryOf}
use Rattle.program_machine.specs.Inputs.{CodeInputs, CodedOf, AnalysisInputs, PosedOf, PosedWith, SliceInputs, SoughtOf, claims_cap, coded_inputs, posed_inputs, table_cap}
use Rattle.program_machine.proofs.InputChains.{code_behind, entry_behind, entry_with, posed_and_cell, sought_behind}
use Rattle.program_run.specs.Steps.{CallSteps, Steps}
use Rattle.program_run.specs.Words.{capped_in}
use Rattle.program_run.proofs.Chain.{Called}

-- What one gives of these inputs the other gives too, or it is a fault.
abbrev pub GivesEither : List Capped → Reading → Reading → (Refusal → Type 0) → Type 0
GivesEither inputs reads other fault = (cap : ℕ) (name : List ℕ) → Contains inputs (name, cap) → (found : Result (List ℕ) Refusal) → reads cap name found → other cap name found ⊎ Fails fault found

pub only : (x : Capped) → Contains (x ∷ []) x
only x = (0, omega arith, refl)

module _ (reads other : Reading) (fault : Refusal → Type 0) where
  abbrev Either : List Capped → Type 0
  Either inputs = GivesEither inputs reads other fault

  first : (xs ys : List Capped) → Either (xs ++ ys) → Either xs
  first xs ys by cap name named found read = by cap name (Contains-append_left xs ys (name, cap) named) found read

  behind : (xs ys : List Capped) → Either (xs ++ ys) → Either ys
  behind xs ys by cap name named found read = by cap name (Contains-append_right xs ys (name, cap) named) found read

  source_either : (spec : SpecName) → Either (source_inputs spec) → (found : Result (List ℕ) Refusal) → SourceOf reads spec found → SourceOf other spec found ⊎ Fails fault found
  source_either (input name) by found read = by source_cap name (only (name, source_cap)) found read
  source_either power_pc by found is = inl is
  source_either risc_v by found is = inl is

  call_either : (request : CallRequest) → Either (source_inputs request.spec) → (outcome : Outcome) → CallSteps reads request outcome → CallSteps other request outcome ⊎ Fails fault outcome
  call_either request by outcome steps =
      either (SourceOf reads request.spec) (SourceOf other request.spec) (Called request) (Called request) fault (source_either request.spec by) (λ source found further. inl further) outcome steps

  machine_either : (spec : SpecName) → Either (source_inputs spec) → (found : Result Spec Refusal) → MachineOf reads spec found → MachineOf other spec found ⊎ Fails fault found
  machine_either spec by found steps =
      either (SourceOf reads spec) (SourceOf other spec) (Specifies Machine) (Specifies Machine) fault (source_either spec by) (λ source found further. inl further) found steps

  segments_either : (parts : List CodePart) → Either (part_inputs parts) → (found : Result (List Segment) Refusal) → SegmentsOf reads parts found → SegmentsOf other parts found ⊎ Fails fault found
  segments_either [] by found is = inl is
  segments_either (part ∷ parts) by found steps =
      either (reads code_cap part.name) (other code_cap part.name) (Rest reads part parts) (Rest other part parts) fault
      (first ((part.name, code_cap) ∷ []) (part_inputs parts) by code_cap part.name (only (part.name, code_cap)))
      (λ bytes. either (SegmentsOf reads parts) (SegmentsOf other parts) (Joins part.base bytes) (Joins part.base bytes) fault
      (segments_either parts (behind ((part.name, code_cap) ∷ []) (part_inputs parts) by)) (λ segments found further. inl further)) found steps

  code_either : (code : Code) → Either (part_inputs code.parts) → (found : Result Image Refusal) → CodeOf reads code found → CodeOf other code found ⊎ Fails fault found
  code_either code by found steps =
      either (SegmentsOf reads code.parts) (SegmentsOf other code.parts) (Images (order_of code.order)) (Images (order_of code.order)) fault (segments_either code.parts by) (λ segments found further. inl further) found steps

  start_either : (spec : Spec) (name : List ℕ) → Either ((name, entry_cap) ∷ []) → (found : Result State Refusal) → StartOf reads spec name found → StartOf other spec name found ⊎ Fails fault found
  start_either spec name by found steps =
      either (reads entry_cap name) (other entry_cap name) (StartsFrom spec) (StartsFrom spec) fault (by entry_cap name (only (name, entry_cap))) (λ bytes found further. inl further) found steps

  emulate_either : (request : EmulateRequest) → Either (emulate_inputs request) → (outcome : Outcome) → EmulateSteps reads request outcome → EmulateSteps other request outcome ⊎ Fails fault outcome
  emulate_either request by outcome steps =
      let sources = source_inputs request.spec in
      let parts = part_inputs request.code.parts in
      let entry = (request.entry, entry_cap) ∷ [] in
      let front = first (sources ++ parts) entry by in
      either (MachineOf reads request.spec) (MachineOf other request.spec) (AfterMachine reads request) (AfterMachine other request) fault (machine_either request.spec (first sources parts front)) (λ spec.
      either (CodeOf reads request.code) (CodeOf other request.code) (AfterCode reads request spec) (AfterCode other request spec) fault (code_either request.code (behind sources parts front)) (λ image.
      either (StartOf reads spec request.entry) (StartOf other spec request.entry) (AfterStart reads request spec image) (AfterStart other request spec image) fault (start_either spec request.entry (behind (sources ++ parts) entry by))
      (λ start found further. inl further))) outcome steps

  entry_either : (spec : Spec) (name : List ℕ) → Either ((name, entry_cap) ∷ []) → (found : Result Entry Refusal) → EntryOf reads spec name found → EntryOf other spec name found ⊎ Fails fault found
  entry_either spec name by found steps =
      either (reads entry_cap name) (other entry_cap name) (Enters spec) (Enters spec) fault (by entry_cap name (only (name, entry_cap))) (λ bytes found further. inl further) found steps

  coded_either : (spec : SpecName) (code : Code) → Either (coded_inputs spec code) → (found : Result CodeInputs Refusal) → CodedOf reads spec code found → CodedOf other spec code found ⊎ Fails fault found
  coded_either spec code by found steps =
      let sources = source_inputs spec in
      let parts = part_inputs code.parts in
      either (MachineOf reads spec) (MachineOf other spec) (λ s. code_behind code s reads) (λ s. code_behind code s other) fault (machine_either spec (first sources parts by)) (λ s.
      either (CodeOf reads code) (CodeOf other code) (λ image found. found ≡ Ok (record { spec = s; image = image })) (λ image found. found ≡ Ok (record { spec = s; image = image })) fault (code_either code (behind sources parts by))
      (λ image found further. inl further)) found steps

  posed_either : (spec : SpecName) (code : Code) (entry : List ℕ) → Either (posed_inputs spec code entry) → (found : Result AnalysisInputs Refusal) → PosedOf reads spec code entry found → PosedOf other spec code entry found ⊎ Fails fault found
  posed_either spec code entry by found steps =
      let coded = coded_inputs spec code in
      let rest = (entry, entry_cap) ∷ [] in
      either (CodedOf reads spec code) (CodedOf other spec code) (λ c. entry_behind entry c reads) (λ c. entry_behind entry c other) fault (coded_either spec code (first coded rest by)) (λ c.
      either (EntryOf reads c.spec entry) (EntryOf other c.spec entry) (λ e found. found ≡ Ok (record { spec = c.spec; image = c.image; entry = e })) (λ e found. found ≡ Ok (record { spec = c.spec; image = c.image; entry = e })) fault
      (entry_either c.spec entry (behind coded rest by)) (λ e found further. inl further)) found steps

  posed_with_either : (spec : Spec) (code : Code) (entry : List ℕ) → Either (part_inputs code.parts ++ (entry, entry_cap) ∷ []) → (found : Result AnalysisInputs Refusal) → PosedWith reads spec code entry found → PosedWith other spec code entry found ⊎ Fails fault found
  posed_with_either spec code entry by found steps =
      let parts = part_inputs code.parts in
      let rest = (entry, entry_cap) ∷ [] in
      either (CodeOf reads code) (CodeOf other code) (λ image. entry_with code entry spec image reads) (λ image. entry_with code entry spec image other) fault (code_either code (first parts rest by)) (λ image.
      either (EntryOf reads spec entry) (EntryOf other spec entry) (λ e found. found ≡ Ok (record { spec = spec; image = image; entry = e })) (λ e found. found ≡ Ok (record { spec = spec; image = image; entry = e })) fault
      (entry_either spec entry (behind parts rest by)) (λ e found further. inl further)) found steps

  sought_either : (spec : SpecName) (cell : List ℕ) (code : Code) (entry : List ℕ) → Either (posed_inputs spec code entry) → (found : Result SliceInputs Refusal) → SoughtOf reads spec cell code entry found → SoughtOf other spec cell code entry found ⊎ Fails fault found
  sought_either spec cell code entry by found steps =
      let sources = source_inputs spec in
      let parts = part_inputs code.parts in
      let rest = (entry, entry_cap) ∷ [] in
      let further : Either (parts ++ rest) = behind sources (parts ++ rest) (subst (λ (xs : List Capped). Either xs) (append_assoc sources parts rest) by) in
      either (MachineOf reads spec) (MachineOf other spec) (λ s. sought_behind cell code entry s reads) (λ s. sought_behind cell code entry s other) fault (machine_either spec (first sources parts (first (sources ++ parts) rest by))) (λ s.
      either (CellOf s cell) (CellOf s cell) (λ a. posed_and_cell cell code entry s a reads) (λ a. posed_and_cell cell code entry s a other) fault (λ found is. inl is) (λ a.
      either (PosedWith reads s code entry) (PosedWith other s code entry) (λ posed found. found ≡ Ok (record { posed = posed; asked = a })) (λ posed found. found ≡ Ok (record { posed = posed; asked = a })) fault
      (posed_with_either s code entry further) (λ posed found is. inl is))) found steps

  -- a table, of whose bytes something is made
  table_either : (name : List ℕ) (made : List ℕ → Outcome → Type 0) → Either ((name, table_cap) ∷ []) → (outcome : Outcome) → table_behind name made reads outcome → table_behind name made other outcome ⊎ Fails fault outcome
  table_either name made by outcome steps = either (reads table_cap name) (other table_cap name) made made fault (by table_cap name (only (name, table_cap))) (λ bytes found further. inl further) outcome steps

  -- and claims behind it
  claims_after_either : (table second : List ℕ) (made : List ℕ → List ℕ → Outcome → Type 0) → Either ((table, table_cap) ∷ []) → Either ((second, claims_cap) ∷ [])
      → (outcome : Outcome) → both_behind table second made reads outcome → both_behind table second made other outcome ⊎ Fails fault outcome
  claims_after_either table second made by further outcome steps =
      either (reads table_cap table) (other table_cap table) (λ bytes. claims_behind second (made bytes) reads) (λ bytes. claims_behind second (made bytes) other) fault (by table_cap table (only (table, table_cap))) (λ bytes.
      either (reads claims_cap second) (other claims_cap second) (made bytes) (made bytes) fault (further claims_cap second (only (second, claims_cap))) (λ others found is. inl is)) outcome steps

  analyse_either : (request : AnalyseRequest) → Either (analyse_inputs request) → (outcome : Outcome) → AnalyseSteps reads request outcome → AnalyseSteps other request outcome ⊎ Fails fault outcome
  analyse_either request by outcome steps =
      either (PosedOf reads request.spec request.code request.entry) (PosedOf other request.spec request.code request.entry) (AnalysisOf request) (AnalysisOf request) fault
      (posed_either request.spec request.code request.entry by) (λ posed found further. inl further) outcome steps

  check_either : (request : CheckRequest) → Either (check_inputs request) → (outcome : Outcome) → CheckSteps reads request outcome → CheckSteps other request outcome ⊎ Fails fault outcome
  check_either request by outcome steps =
      let wanted = request.analysis in
      let posed = analyse_inputs wanted in
      let table = (request.table, table_cap) ∷ [] in
      either (PosedOf reads wanted.spec wanted.code wanted.entry) (PosedOf other wanted.spec wanted.code wanted.entry) (λ p. table_behind request.table (CheckOf wanted p) reads) (λ p. table_behind request.table (CheckOf wanted p) other) fault
      (posed_either wanted.spec wanted.code wanted.entry (first posed table by)) (λ p. table_either request.table (CheckOf wanted p) (behind posed table by)) outcome steps

  convert_either : (request : ConvertRequest) → Either (convert_inputs request) → (outcome : Outcome) → ConvertSteps reads request outcome → ConvertSteps other request outcome ⊎ Fails fault outcome
  convert_either request by outcome steps =
      let coded = coded_inputs request.spec request.code in
      let table = (request.table, table_cap) ∷ [] in
      either (CodedOf reads request.spec request.code) (CodedOf other request.spec request.code) (λ c. table_behind request.table (ConversionOf request.base c) reads) (λ c. table_behind request.table (ConversionOf request.base c) other) fault
      (coded_either request.spec request.code (first coded table by)) (λ c. table_either request.table (ConversionOf request.base c) (behind coded table by)) outcome steps

  slice_either : (request : SliceRequest) → Either (slice_inputs request) → (outcome : Outcome) → SliceSteps reads request outcome → SliceSteps other request outcome ⊎ Fails fault outcome
  slice_either request by outcome steps =
      let wanted = request.check.analysis in
      let posed = analyse_inputs wanted in
      let table = (request.check.table, table_cap) ∷ [] in
      let made = λ (s : SliceInputs). SliceOf wanted s request.address in
      either (SoughtOf reads wanted.spec request.cell wanted.code wanted.entry) (SoughtOf other wanted.spec request.cell wanted.code wanted.entry) (λ s. table_behind request.check.table (made s) reads) (λ s. table_behind request.check.table (made s) other) fault
      (sought_either wanted.spec request.cell wanted.code wanted.entry (first posed table by)) (λ s. table_either request.check.table (made s) (behind posed table by)) outcome steps

  claims_either : (request : ClaimsRequest) → Either (claims_inputs request) → (outcome : Outcome) → ClaimsSteps reads request outcome → ClaimsSteps other request outcome ⊎ Fails fault outcome
  claims_either request by outcome steps =
      let wanted = request.check.analysis in
      let posed = analyse_inputs wanted in
      let table = (request.check.table, table_cap) ∷ [] in
      let rest = (request.claims, claims_cap) ∷ [] in
      let front = first (check_inputs request.check) rest by in
      let made = λ (p : AnalysisInputs). ClaimsOf wanted p in
      either (PosedOf reads wanted.spec wanted.code wanted.entry) (PosedOf other wanted.spec wanted.code wanted.entry) (λ p. both_behind request.check.table request.claims (made p) reads) (λ p. both_behind request.check.table request.claims (made p) other) fault
      (posed_either wanted.spec wanted.code wanted.entry (first posed table front)) (λ p. claims_after_either request.check.table request.claims (made p) (behind posed table front) (behind (check_inputs request.check) rest by)) outcome steps

  list_either : (request : ListRequest) → Either (list_inputs request) → (outcome : Outcome) → ListSteps reads request outcome → ListSteps other request outcome ⊎ Fails fault outcome
  list_either request by outcome steps =
      let sources = source_inputs request.spec in
      let parts = part_inputs request.code.parts in
      either (MachineOf reads request.spec) (MachineOf other request.spec) (ListsOf reads request) (ListsOf other request) fault (machine_either request.spec (first sources parts by)) (λ spec.
      either (CodeOf reads request.code) (CodeOf other request.code) (Lists reads request spec) (Lists other request spec) fault (code_either request.code (behind sources parts by))
      (λ image found further. inl further)) outcome steps

  pub asked_either : (what : Option Request) → GivesEither (capped_in what) reads other fault → (outcome : Outcome) → Steps reads what outcome → Steps other what outcome ⊎ Fails fault outcome
  asked_either None by outcome is = inl is
  asked_either (Some (call request)) by outcome steps = call_either request by outcome steps
  asked_either (Some (emulate request)) by outcome steps = emulate_either request by outcome steps
  asked_either (Some (analyse request)) by outcome steps = analyse_either request by outcome steps
  asked_either (Some (check request)) by outcome steps = check_either request by outcome steps
  asked_either (Some (convert request)) by outcome steps = convert_either request by outcome steps
  asked_either (Some (list request)) by outcome steps = list_either request by outcome steps
  asked_either (Some (slice request)) by outcome steps = slice_either request by outcome steps
  asked_either (Some (claims request)) by outcome steps = claims_either request by outcome steps
  asked_either (Some (stress request)) by outcome is = inl is
