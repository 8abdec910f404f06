-- The same over what a run owes.
use Rattle.std.proofs.Common.{◌≡◌, ◌∙◌, ◌⊎◌, ℕ, ◌≤◌, ◌∷◌, [], Bool, List, Option, Some, true, false, inl, inr, length, refl, sym, subst}
use Rattle.std.specs.Prelude.{Contains, Err, Ok, Result}
use Rattle.std.proofs.lemmas.List.Elements.{Contains-append_left, Contains-append_right}
use Rattle.support_command_line.specs.declared.bases.BaseName.{BaseName}
use Rattle.support_command_line.specs.Code.{Code}
use Rattle.support_command_line.specs.SpecNames.{SpecName}
use Rattle.support_command_line.specs.Requests.{AnalyseRequest, CheckRequest, ConvertRequest, Request, analyse, check, convert}
use Rattle.support_command_line.specs.Words.{asked}
use Rattle.code_image.specs.Image.{Image}
use Rattle.spec_ir.specs.declared.spec.Machine.{Machine as Numbers}
use Rattle.spec_ir.specs.Specification.{Spec}
use Rattle.analysis_problems.proofs.States.{accepted_have_states}
use Rattle.text_round_trips.specs.Fields.{HasUseTexts}
use Rattle.text_round_trips.proofs.Machines.{machines_have_use_texts}
use Rattle.domain_laws.specs.States.{has_states}
use Rattle.program_machine.specs.Code.{CodeOf, part_inputs}
use Rattle.program_machine.specs.Entry.{entry_cap}
use Rattle.program_machine.specs.Machines.{MachineOf}
use Rattle.program_common.specs.Outcome.{Outcome, Refusal, text}
use Rattle.program_common.specs.Reading.{Capped, Held, Holds, Reading, long, none, whole}
use Rattle.program_common.specs.Sources.{source_inputs}
use Rattle.program_common.specs.Steps.{Then, goes_on, refused}
use Rattle.program_common.proofs.OneSource.{one_held}
use Rattle.program_common.proofs.Steps.{Fails, opened}
use Rattle.program_machine.specs.Inputs.{CodeInputs, CodedOf, AnalysisInputs, PosedOf, coded_inputs, table_cap}
use Rattle.program_machine.proofs.Images.{code_image}
use Rattle.program_machine.proofs.Problems.{coded_parts, machine_accepted, machine_there, posed_parts, some_machine}
use Rattle.program_machine.proofs.InputSingle.{one_coded}
use Rattle.program_domains.specs.Checks.{accepted_line}
use Rattle.program_domains.specs.Named.{Converted, Done}
use Rattle.program_domains.specs.Tasks.{Task}
use Rattle.program_domains.specs.Tasks as tasks
use Rattle.program_analyses.specs.Problems.{problem_in}
use Rattle.program_analyses.specs.Steps.{AnalyseSteps, AnalysisOf, CheckSteps, ConversionOf, ConvertSteps, OpenTabledBy, TabledBy}
use Rattle.program_analyses.proofs.Chains.{table_behind}
use Rattle.program_analyses.proofs.One.{check_has_one}
use Rattle.program_analyses.proofs.Problems.{closed_is, is_open_tabled, is_tabled, open_is, read_is_well_posed}
use Rattle.program_run.specs.Owed.{IsOwed}
use Rattle.program_run.specs.Steps.{Steps}
use Rattle.program_run.specs.Words.{capped_in, capped_inputs}
use Rattle.program_run.proofs.Others.{asked_either}
use Rattle.program_run.proofs.Parts.{few_asked}
use Rattle.program_laws.specs.AgreementLaws.{AnalyseThenCheck, ConvertTwice, HoldBytes, HoldTheSame, IsCodeFor, IsCodeOf, OwedByInputs}
use Rattle.program_laws.proofs.Accepted.{analyses_check, open_analyses_check}
use Rattle.program_laws.proofs.Agreement.{conversions_stay}
use Rattle.program_laws.proofs.CodeWords.{BytesIn, code_words}

-- ---- what is owed depends on inputs alone

held_too : (held later : Held) (cap : ℕ) (name : List ℕ) → held name ≡ later name → (found : Result (List ℕ) Refusal) → Holds held cap name found → Holds later cap name found
held_too held later cap name same found (whole is fits) = whole (sym same ∙ is) fits
held_too held later cap name same found (long is longer) = long (sym same ∙ is) longer
held_too held later cap name same found (none is) = none (sym same ∙ is)

abbrev never : Refusal → Type 0
never refusal = ⊥

without_fault : (outcome : Outcome) → Fails never outcome → ⊥
without_fault (Ok answer) h = h
without_fault (Err refusal) h = h

either_owed : (words : List (List ℕ)) (later : Held) (outcome : Outcome) → IsOwed words later outcome ⊎ Fails never outcome → IsOwed words later outcome
either_owed words later outcome (inl is) = is
either_owed words later outcome (inr h) = absurd (without_fault outcome h)

pub owed_by_inputs : OwedByInputs
owed_by_inputs words held later outcome same is =
    either_owed words later outcome (asked_either (Holds held) (Holds later) never (asked words) (λ cap name named found read. inl (held_too held later cap name (same cap name named) found read)) outcome is)

-- ---- what was read

module _ (reads : Reading) (name : SpecName) (spec : Spec) where
  states_there : MachineOf reads name (Ok spec) → has_states spec ≡ true
  states_there is = let m = some_machine spec.machine (machine_there reads name spec is) in accepted_have_states spec m.0 (machine_accepted reads name spec is) m.1

  use_texts : MachineOf reads name (Ok spec) → HasUseTexts spec
  use_texts (goes_on {given = source} read is) =
      machines_have_use_texts source is.parsed.tokens (length source) is.tree spec is.parsed.lexed is.parsed.parsed is.faultless is.checked (states_there (goes_on read is))

  code_for : (code : Code) (image : Image) → length code.parts ≤ 16 → MachineOf reads name (Ok spec) → CodeOf reads code (Ok image) → IsCodeFor spec image
  code_for code image few machine is = record { is_image = code_image reads code image few is; fields = use_texts machine }

-- ---- analyses

-- an analysis of what was read that came to the text of a table, and what was read
record Analysing (held : Held) (request : AnalyseRequest) (bytes : List ℕ) : Type 0 where
  pub posed : AnalysisInputs
  pub is_posed : PosedOf (Holds held) request.spec request.code request.entry (Ok posed)
  pub tabled : TabledBy request posed bytes

-- the same of one that is left open
record OpenAnalysing (held : Held) (request : AnalyseRequest) (bytes : List ℕ) : Type 0 where
  pub posed : AnalysisInputs
  pub is_posed : PosedOf (Holds held) request.spec request.code request.entry (Ok posed)
  pub tabled : OpenTabledBy request posed bytes

module _ (held : Held) (request : AnalyseRequest) (bytes : List ℕ) where
  analysing : request.open ≡ false → AnalyseSteps (Holds held) request (Ok (text bytes)) → Analysing held request bytes
  analysing closed is =
      let o = opened (PosedOf (Holds held) request.spec request.code request.entry) (AnalysisOf request) (text bytes) is in
      record { posed = o.0; is_posed = o.1; tabled = is_tabled request o.0 bytes closed o.2 }

  open_analysing : request.open ≡ true → AnalyseSteps (Holds held) request (Ok (text bytes)) → OpenAnalysing held request bytes
  open_analysing left_open is =
      let o = opened (PosedOf (Holds held) request.spec request.code request.entry) (AnalysisOf request) (text bytes) is in
      record { posed = o.0; is_posed = o.1; tabled = is_open_tabled request o.0 bytes left_open o.2 }

-- the request of a check of that name with the same words, where so many changes join
abbrev checking : AnalyseRequest → ℕ → List ℕ → CheckRequest
checking request joins table = record { analysis = record request { joins = joins }; table = table }

-- the inputs of code are those of an analysis
code_inputs_hold : (held : Held) (request : AnalyseRequest) → BytesIn (capped_in (Some (analyse request))) held → BytesIn (part_inputs request.code.parts) held
code_inputs_hold held request are cap name bytes named is =
    are cap name bytes
    (Contains-append_left (coded_inputs request.spec request.code) ((request.entry, entry_cap) ∷ []) (name, cap) (Contains-append_right (source_inputs request.spec) (part_inputs request.code.parts) (name, cap) named)) is

-- ---- the check of its text

module _ (held : Held) (request : AnalyseRequest) (joins : ℕ) (table bytes : List ℕ) (few : length request.code.parts ≤ 16) (holds : held table ≡ Some bytes) (fits : length bytes ≤ table_cap) where
  check_of_it : request.open ≡ false → Analysing held request bytes → CheckSteps (Holds held) (checking request joins table) (Ok (text accepted_line))
  check_of_it closed a =
      let parts = posed_parts (Holds held) request.spec request.code request.entry a.posed a.is_posed in
      let code = code_for (Holds held) request.spec a.posed.spec request.code a.posed.image few parts.coded.machine parts.coded.image in
      let p = problem_in (record request { joins = joins }) a.posed a.tabled.machine in
      let posed = read_is_well_posed (Holds held) (record request { joins = joins }) a.posed a.tabled.machine few a.is_posed a.tabled.is_machine in
      let of : IsCodeOf p a.posed.image = record { addresses_are = refl; words_are = refl; code = code } in
      goes_on a.is_posed (goes_on (whole holds fits) (record {
        machine = a.tabled.machine;
        is_machine = a.tabled.is_machine;
        checked = subst (λ (task : Task). Done a.posed.image task request.base (Ok (text accepted_line))) (sym (closed_is (tasks.check_open p bytes) (tasks.check p bytes) request.open closed))
            (analyses_check a.posed.image p request.joins request.base bytes posed of a.tabled.analysed);
      }))

  open_check_of_it : request.open ≡ true → BytesIn (part_inputs request.code.parts) held → OpenAnalysing held request bytes → CheckSteps (Holds held) (checking request joins table) (Ok (text accepted_line))
  open_check_of_it left_open are a =
      let parts = posed_parts (Holds held) request.spec request.code request.entry a.posed a.is_posed in
      let code = code_for (Holds held) request.spec a.posed.spec request.code a.posed.image few parts.coded.machine parts.coded.image in
      let p = problem_in (record request { joins = joins }) a.posed a.tabled.machine in
      let posed = read_is_well_posed (Holds held) (record request { joins = joins }) a.posed a.tabled.machine few a.is_posed a.tabled.is_machine in
      let of : IsCodeOf p a.posed.image = record { addresses_are = refl; words_are = refl; code = code } in
      let words = code_words held request.code a.posed.image are parts.coded.image in
      goes_on a.is_posed (goes_on (whole holds fits) (record {
        machine = a.tabled.machine;
        is_machine = a.tabled.is_machine;
        checked = subst (λ (task : Task). Done a.posed.image task request.base (Ok (text accepted_line))) (sym (open_is (tasks.check_open p bytes) (tasks.check p bytes) request.open left_open))
            (open_analyses_check a.posed.image p request.joins request.base bytes posed of words a.tabled.analysed);
      }))

  check_of_either : (b : Bool) → request.open ≡ b → (request.open ≡ true → BytesIn (capped_in (Some (analyse request))) held) → AnalyseSteps (Holds held) request (Ok (text bytes))
      → CheckSteps (Holds held) (checking request joins table) (Ok (text accepted_line))
  check_of_either false closed are is = check_of_it closed (analysing held request bytes closed is)
  check_of_either true left_open are is = open_check_of_it left_open (code_inputs_hold held request (are left_open)) (open_analysing held request bytes left_open is)

-- inputs that hold the same later hold bytes later
later_bytes : (words : List (List ℕ)) (held later : Held) → HoldTheSame words held later → HoldBytes words held → HoldBytes words later
later_bytes words held later same are cap name bytes named is = are cap name bytes named (same cap name named ∙ is)

pub analyse_then_check : AnalyseThenCheck
analyse_then_check words check_words held later request joins table bytes found asks also are first same holds fits second =
    let few = few_asked words (analyse request) asks in
    let owed = owed_by_inputs words held later (Ok (text bytes)) same first in
    let analysed : AnalyseSteps (Holds later) request (Ok (text bytes)) = subst (λ (what : Option Request). Steps (Holds later) what (Ok (text bytes))) asks owed in
    let checked : CheckSteps (Holds later) (checking request joins table) found = subst (λ (what : Option Request). Steps (Holds later) what found) also second in
    check_has_one later (checking request joins table) found (Ok (text accepted_line)) few checked
    (check_of_either later request joins table bytes few holds fits request.open refl
    (λ left_open. subst (λ (what : Option Request). BytesIn (capped_in what) later) asks (later_bytes words held later same (are left_open))) analysed)

-- ---- conversions

-- a conversion of what was read that came to a text, and what was read
record Converting (held : Held) (request : ConvertRequest) (new : List ℕ) : Type 0 where
  pub coded : CodeInputs
  pub bytes : List ℕ
  pub is_coded : CodedOf (Holds held) request.spec request.code (Ok coded)
  pub converted : Converted coded.image coded.spec request.base bytes (Ok (text new))

converting : (held : Held) (request : ConvertRequest) (new : List ℕ) → ConvertSteps (Holds held) request (Ok (text new)) → Converting held request new
converting held request new is =
    let o = opened (CodedOf (Holds held) request.spec request.code) (λ coded. table_behind request.table (ConversionOf request.base coded) (Holds held)) (text new) is in
    let t = opened (Holds held table_cap request.table) (ConversionOf request.base o.0) (text new) o.2 in
    record { coded = o.0; bytes = t.0; is_coded = o.1; converted = t.2 }

-- what comes of a table that a name holds, behind the code that is read
module _ (held : Held) (table new : List ℕ) (holds : held table ≡ Some new) (fits : length new ≤ table_cap) where
  of_table : (base : BaseName) (coded : CodeInputs) (found : Outcome) → table_behind table (ConversionOf base coded) (Holds held) found → Converted coded.image coded.spec base new found
  of_table base coded found (refused {refusal = e} p) = let clash = one_held held table_cap table (Err e) (Ok new) p (whole holds fits) in absurd (cc)
  of_table base coded found (goes_on {given = bytes} p r) =
      let same = one_held held table_cap table (Ok bytes) (Ok new) p (whole holds fits) in
      let given : bytes ≡ new = cc in
      subst (λ (xs : List ℕ). Converted coded.image coded.spec base xs found) given r

  of_code : (name : SpecName) (code : Code) (base : BaseName) (coded : CodeInputs) (found : Outcome) → CodedOf (Holds held) name code (Ok coded)
      → Then (CodedOf (Holds held) name code) (λ coded. table_behind table (ConversionOf base coded) (Holds held)) found → Converted coded.image coded.spec base new found
  of_code name code base coded found is (refused {refusal = e} p) = let clash = one_coded held name code (Err e) (Ok coded) p is in absurd (cc)
  of_code name code base coded found is (goes_on {given = other} p r) =
      let same = one_coded held name code (Ok other) (Ok coded) p is in
      let given : other ≡ coded = cc in
      subst (λ (c : CodeInputs). Converted c.image c.spec base new found) given (of_table base other found r)

pub convert_twice : ConvertTwice
convert_twice words again_words held later request table new found asks also first same holds fits second =
    let few = few_asked words (convert request) asks in
    let owed = owed_by_inputs words held later (Ok (text new)) same first in
    let converted : ConvertSteps (Holds later) request (Ok (text new)) = subst (λ (what : Option Request). Steps (Holds later) what (Ok (text new))) asks owed in
    let c = converting later request new converted in
    let more : ConvertSteps (Holds later) (record { spec = request.spec; code = request.code; base = request.base; table = table }) found = subst (λ (what : Option Request). Steps (Holds later) what found) also second in
    let parts = coded_parts (Holds later) request.spec request.code c.coded c.is_coded in
    record {
      coded = c.coded;
      is_coded = c.is_coded;
      rewritten = conversions_stay c.coded.image c.coded.spec request.base c.bytes new found (code_for (Holds later) request.spec c.coded.spec request.code c.coded.image few parts.machine parts.image) c.converted
          (of_code later table new holds fits request.spec request.code request.base c.coded found c.is_coded more);
    }
