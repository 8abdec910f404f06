-- No refusal is for want of memory: each has a line.
use Rattle.std.proofs.Common.{◌≡◌, ◌≢◌, ℕ, ◌+◌, Bool, List, [], ◌∷◌, Option, Some, None, refl, sym, ◌∙◌, ap, subst}
use Rattle.std.specs.Prelude.{Result, Ok, Err}
use Rattle.support_command_line.specs.declared.bases.BaseName.{BaseName}
use Rattle.support_command_line.specs.Bases.{base_text}
use Rattle.support_command_line.specs.Requests.{Request, StressRequest, call, emulate, analyse, check, convert, list, slice, claims, stress}
use Rattle.syntax_parser.specs.declared.ParseError.{ParseError}
use Rattle.syntax_parser.specs.declared.ParseError.TheVariants as parsing
use Rattle.syntax_lexer.specs.declared.token.Token.{Token}
use Rattle.spec_ir.specs.declared.spec.SpecUse.{SpecUse}
use Rattle.spec_ir.specs.declared.spec.SpecUse.TheVariants.{Machine}
use Rattle.spec_ir.specs.Specification.{Spec}
use Rattle.code_image.specs.declared.image_error.ImageError.{ImageError}
use Rattle.code_image.specs.declared.image_error.ImageError.TheVariants as imaging
use Rattle.code_image.specs.declared.order.Order.{Order}
use Rattle.code_image.specs.declared.order.Order.TheVariants.{Big}
use Rattle.code_image.specs.Faults.{image_fault}
use Rattle.code_image.specs.Image.{Image, Segment}
use Rattle.state_text.specs.declared.entry_error.EntryError.{EntryError}
use Rattle.state_text.specs.declared.entry_error.EntryError.TheVariants as entering
use Rattle.state_text.specs.Reading.{Entry, read}
use Rattle.program_stress_code.specs.Entry.{entry_text, start_text}
use Rattle.semantics_values.specs.States.{State}
use Rattle.text_faults.specs.declared.table_error.TableError.TheVariants as tabling
use Rattle.text_table_reader.proofs.Told.{table_told}
use Rattle.text_faults.specs.declared.claim_error.ClaimError.TheVariants as claiming
use Rattle.text_claims.specs.Reading.{has_word}
use Rattle.text_claims.proofs.Told.{claims_told}
use Rattle.state_fault_laws.proofs.Faults.{faults_have_lines}
use Rattle.state_fault_laws.specs.Laws.{FaultsHaveLines}
use Rattle.fixpoint_theory.specs.declared.verdict.Verdict.{Verdict}
use Rattle.fixpoint_theory.specs.declared.verdict.Verdict.TheVariants as v
use Rattle.fixpoint_theory.specs.Verdicts.{verdict_of}
use Rattle.domain_laws.specs.States.{state_type}
use Rattle.analysis_transfer_laws.specs.Problem.{Problem}
use Rattle.text_slices.specs.declared.slice_cell.SliceCell.{SliceCell}
use Rattle.program_domains.specs.Analyses.{IsStop, analysis}
use Rattle.program_domains.specs.Checks.{Judges, judged, outcome_of, refused}
use Rattle.program_domains.specs.Claims as of_claims
use Rattle.program_domains.specs.Claims.{Claims}
use Rattle.program_domains.specs.Closed.{Answers, ByVerdict}
use Rattle.program_domains.specs.Conversions as conversions
use Rattle.program_domains.specs.Domains.{DomainOf}
use Rattle.program_domains.specs.Named.{Done, domain_of}
use Rattle.program_domains.specs.OpenChecks as of_open_checks
use Rattle.program_domains.specs.OpenChecks.{JudgesOpen}
use Rattle.program_domains.specs.OpenClaims as of_open_claims
use Rattle.program_domains.specs.OpenClaims.{ClaimsOpen}
use Rattle.program_domains.specs.OpenSlices as of_open_slices
use Rattle.program_domains.specs.OpenSlices.{SlicesOpen}
use Rattle.program_domains.specs.Refusals.{IsRefused, faulty, left_open}
use Rattle.program_domains.specs.Slices as of_slices
use Rattle.program_domains.specs.Slices.{Slices}
use Rattle.program_domains.specs.Tasks as tasks
use Rattle.program_domains.specs.Tasks.{Comes, Task, spec_of}
use Rattle.program_common.specs.declared.spec_fault.SpecFault.{SpecFault}
use Rattle.program_common.specs.Outcome.{Answer, Outcome, Refusal, bad_words, cannot_read, too_long, spec_refused, code_refused, entry_refused, calls_spent, undecodable_at, too_many_targets, table_refused, claims_refused, rejected, text, undecodable, calls_ended}
use Rattle.program_common.specs.Shipped.{power_pc_text}
use Rattle.program_common.specs.Sources.{Specifies}
use Rattle.program_common.specs.SpecFaults as of_source
use Rattle.program_common.specs.SpecFaults.{HasFault, IsParseFault}
use Rattle.program_common.specs.Steps.{Then, goes_on, refused as stopped}
use Rattle.program_machine.specs.Code.{Images, imaged}
use Rattle.program_machine.specs.Entry.{entered, state_in}
use Rattle.program_machine.specs.AnalysisEntry.{Enters}
use Rattle.program_machine.specs.Inputs.{AnalysisInputs}
use Rattle.program_analyses.specs.Made.{MadeOf, StartOf, made_code}
use Rattle.program_analyses.specs.StressSteps.{MeasureOf, StressSteps, SummaryOf, problem_made}
use Rattle.program_analyses.specs.Problems.{check_task_in, claims_task_in, problem_in, slice_task_in, task_in}
use Rattle.program_run.specs.Possible.{IsOfSource, MayComeTo}

laws : FaultsHaveLines
laws = faults_have_lines

-- What refuses is not want of memory.
abbrev pub IsTold : Refusal → Type 0
IsTold (spec_refused fault) = IsOfSource fault
IsTold (code_refused fault) = fault ≢ imaging.NoMemory
IsTold (entry_refused fault) = fault ≢ entering.NoMemory
IsTold (table_refused fault) = fault ≢ tabling.NoMemory
IsTold (claims_refused fault) = fault ≢ claiming.NoMemory
IsTold _ = Unit {0}

abbrev pub IsToldIn : {A : Type 0} → Result A Refusal → Type 0
IsToldIn (Ok found) = Unit {0}
IsToldIn (Err refusal) = IsTold refusal

-- ---- sources, code and entries

parse_told : (tokens : List Token) (end : ℕ) (error : ParseError) → IsParseFault tokens end error → error ≢ parsing.NoMemory
parse_told tokens end error wrong is = subst (λ (e : ParseError). IsParseFault tokens end e) is wrong

pub source_told : (wanted : SpecUse) (source : List ℕ) (fault : SpecFault) → HasFault wanted source fault → IsOfSource fault
source_told wanted source fault (of_source.lexing {error = error} first) = laws.source source error first
source_told wanted source fault (of_source.parsing {tokens = tokens} {error = error} lexed wrong) = parse_told tokens _ error wrong
source_told wanted source fault (of_source.checking {tree = tree} {error = error} parsed first) = laws.tree wanted tree error first

pub image_told : (segments : List Segment) (fault : ImageError) → image_fault segments ≡ Some fault → fault ≢ imaging.NoMemory
image_told segments fault is = laws.image segments fault is

pub entry_told : (spec : Spec) (bytes : List ℕ) (error : EntryError) → read spec bytes ≡ Err error → error ≢ entering.NoMemory
entry_told spec bytes error is = laws.entry spec bytes error is

start_by : (spec : Spec) (bytes : List ℕ) (found : Result Entry EntryError) (error : EntryError) → read spec bytes ≡ found → state_in spec found ≡ Err error → error ≢ entering.NoMemory
start_by spec bytes (Ok entry) error is starts = laws.state spec entry error starts
start_by spec bytes (Err other) error is starts = let same : other ≡ error = cc in laws.entry spec bytes error (is ∙ ap (λ (e : EntryError). Err e) same)

pub start_told : (spec : Spec) (bytes : List ℕ) (error : EntryError) → state_in spec (read spec bytes) ≡ Err error → error ≢ entering.NoMemory
start_told spec bytes error starts = start_by spec bytes (read spec bytes) error refl starts

-- ---- work on a table

module _ {E W N C : Type 0} (domain : DomainOf E W N C) where
  verdict_told : (x : Verdict W) → IsToldIn (outcome_of domain.word_text x)
  verdict_told v.Accepted = tt
  verdict_told v.Entry = tt
  verdict_told (v.Open at to) = tt
  verdict_told (v.Undecodable at word) = tt
  verdict_told (v.TooManyTargets at shown) = tt
  verdict_told (v.Targets at) = tt
  verdict_told (v.Use at) = tt

  stops_told : (p : Problem) (refusal : Refusal) → IsStop domain p refusal → IsTold refusal
  stops_told p (undecodable_at at word) is = tt
  stops_told p (too_many_targets at shown) is = tt
  stops_told p _ is = absurd is

  refused_told : (spec : Spec) (image : Image) (base bytes : List ℕ) (x : Refusal) → IsRefused domain spec image base bytes x → IsTold x
  refused_told spec image base bytes x (faulty {error = e} is) = table_told domain.Reads domain.word_in spec base image bytes e is
  refused_told spec image base bytes x (left_open table ends is first) = tt

  judged_told : (p : Problem) (image : Image) (base bytes : List ℕ) (found : Outcome) → Judges domain p image base bytes found → IsToldIn found
  judged_told p image base bytes found (refused {refusal = x} is) = refused_told p.spec image base bytes x is
  judged_told p image base bytes found (judged table is) = verdict_told (verdict_of (analysis domain p) table)

  answers_told : (Is : List ℕ → Type 0) (found : Outcome) → Answers Is found → IsToldIn found
  answers_told Is (Ok answer) is = tt
  answers_told Is (Err refusal) is = absurd is

  by_verdict_told : (Is : List ℕ → Type 0) (x : Verdict W) (found : Outcome) → ByVerdict domain.word_text Is x found → IsToldIn found
  by_verdict_told Is v.Accepted found is = answers_told Is found is
  by_verdict_told Is v.Entry found is = subst (λ (o : Outcome). IsToldIn o) (sym is) (verdict_told v.Entry)
  by_verdict_told Is (v.Open at to) found is = subst (λ (o : Outcome). IsToldIn o) (sym is) (verdict_told (v.Open at to))
  by_verdict_told Is (v.Undecodable at word) found is = subst (λ (o : Outcome). IsToldIn o) (sym is) (verdict_told (v.Undecodable at word))
  by_verdict_told Is (v.TooManyTargets at shown) found is = subst (λ (o : Outcome). IsToldIn o) (sym is) (verdict_told (v.TooManyTargets at shown))
  by_verdict_told Is (v.Targets at) found is = subst (λ (o : Outcome). IsToldIn o) (sym is) (verdict_told (v.Targets at))
  by_verdict_told Is (v.Use at) found is = subst (λ (o : Outcome). IsToldIn o) (sym is) (verdict_told (v.Use at))

  sliced_told : (p : Problem) (image : Image) (base bytes : List ℕ) (at : ℕ) (asked : SliceCell) (found : Outcome) → Slices domain p image base bytes at asked found → IsToldIn found
  sliced_told p image base bytes at asked found (of_slices.refused {refusal = x} is) = refused_told p.spec image base bytes x is
  sliced_told p image base bytes at asked found (of_slices.judged table is by) = by_verdict_told _ (verdict_of (analysis domain p) table) found by

  claimed_told : (p : Problem) (image : Image) (base bytes said : List ℕ) (found : Outcome) → Claims domain p image base bytes said found → IsToldIn found
  claimed_told p image base bytes said found (of_claims.refused {refusal = x} is) = refused_told p.spec image base bytes x is
  claimed_told p image base bytes said found (of_claims.unread {error = x} table is e) = claims_told domain.telling (has_word image) p.spec said x e
  claimed_told p image base bytes said found (of_claims.judged table all is e by) = by_verdict_told _ (verdict_of (analysis domain p) table) found by

  -- where blocks may be left open
  open_judged_told : (p : Problem) (image : Image) (base bytes : List ℕ) (found : Outcome) → JudgesOpen domain p image base bytes found → IsToldIn found
  open_judged_told p image base bytes found (of_open_checks.refused {error = e} is) = table_told domain.Reads domain.word_in p.spec base image bytes e is
  open_judged_told p image base bytes found (of_open_checks.judged table ends x is) = verdict_told x

  open_sliced_told : (p : Problem) (image : Image) (base bytes : List ℕ) (at : ℕ) (asked : SliceCell) (found : Outcome) → SlicesOpen domain p image base bytes at asked found → IsToldIn found
  open_sliced_told p image base bytes at asked found (of_open_slices.refused {error = e} is) = table_told domain.Reads domain.word_in p.spec base image bytes e is
  open_sliced_told p image base bytes at asked found (of_open_slices.judged table ends x is by) = by_verdict_told _ x found by

  open_claimed_told : (p : Problem) (image : Image) (base bytes said : List ℕ) (found : Outcome) → ClaimsOpen domain p image base bytes said found → IsToldIn found
  open_claimed_told p image base bytes said found (of_open_claims.refused {error = e} is) = table_told domain.Reads domain.word_in p.spec base image bytes e is
  open_claimed_told p image base bytes said found (of_open_claims.unread {error = x} table ends is e) = claims_told domain.telling (has_word image) p.spec said x e
  open_claimed_told p image base bytes said found (of_open_claims.judged table ends x all is e by) = by_verdict_told _ x found by

  done_told : (image : Image) (base : List ℕ) (task : Task) (refusal : Refusal) → Comes domain image base task (Err refusal) → IsTold refusal
  done_told image base (tasks.analyse p) refusal is = stops_told p refusal is
  done_told image base (tasks.analyse_open p) refusal is = absurd is
  done_told image base (tasks.measure p) refusal is = stops_told p refusal is
  done_told image base (tasks.check p bytes) refusal is = judged_told p image base bytes (Err refusal) is
  done_told image base (tasks.check_open p bytes) refusal is = open_judged_told p image base bytes (Err refusal) is
  done_told image base (tasks.convert spec bytes) refusal (conversions.refused {error = e} is) = table_told domain.Reads domain.word_in spec base image bytes e is
  done_told image base (tasks.slice p bytes at asked) refusal is = sliced_told p image base bytes at asked (Err refusal) is
  done_told image base (tasks.slice_open p bytes at asked) refusal is = open_sliced_told p image base bytes at asked (Err refusal) is
  done_told image base (tasks.claims_open p bytes said) refusal is = open_claimed_told p image base bytes said (Err refusal) is
  done_told image base (tasks.claims p bytes said) refusal is = claimed_told p image base bytes said (Err refusal) is

task_told : (image : Image) (task : Task) (base : BaseName) (refusal : Refusal) → Done image task base (Err refusal) → IsTold refusal
task_told image task base refusal is = done_told (domain_of (state_type (spec_of task)) base).domain image (base_text base) task refusal is

-- ---- stresses

module _ {A B : Type 0} (first : Result A Refusal → Type 0) (next : A → Result B Refusal → Type 0) where
  then_told : ((found : Result A Refusal) → first found → IsToldIn found) → ((given : A) (found : Result B Refusal) → next given found → IsToldIn found) → (found : Result B Refusal) → Then first next found → IsToldIn found
  then_told by_first by_next found (stopped {refusal = e} p) = by_first (Err e) p
  then_told by_first by_next found (goes_on {given = a} p r) = by_next a found r

specified_told : (wanted : SpecUse) (source : List ℕ) (found : Result Spec Refusal) → Specifies wanted source found → IsToldIn found
specified_told wanted source (Ok spec) is = tt
specified_told wanted source (Err (spec_refused fault)) is = source_told wanted source fault is
specified_told wanted source (Err bad_words) is = absurd is
specified_told wanted source (Err (cannot_read name)) is = absurd is
specified_told wanted source (Err (too_long name)) is = absurd is
specified_told wanted source (Err (code_refused fault)) is = absurd is
specified_told wanted source (Err (entry_refused fault)) is = absurd is
specified_told wanted source (Err calls_spent) is = absurd is
specified_told wanted source (Err (undecodable_at at word)) is = absurd is
specified_told wanted source (Err (too_many_targets at shown)) is = absurd is
specified_told wanted source (Err (table_refused fault)) is = absurd is
specified_told wanted source (Err (claims_refused fault)) is = absurd is
specified_told wanted source (Err (rejected rejection)) is = absurd is

imaged_told : (order : Order) (segments : List Segment) (fault : Option ImageError) → image_fault segments ≡ fault → IsToldIn (imaged order segments fault)
imaged_told order segments None is = tt
imaged_told order segments (Some fault) is = image_told segments fault is

images_told : (order : Order) (segments : List Segment) (found : Result Image Refusal) → Images order segments found → IsToldIn found
images_told order segments found is = subst (λ (f : Result Image Refusal). IsToldIn f) (sym is) (imaged_told order segments (image_fault segments) refl)

entered_told : {A : Type 0} (given : Result A EntryError) → ((error : EntryError) → given ≡ Err error → error ≢ entering.NoMemory) → IsToldIn (entered given)
entered_told (Ok found) told = tt
entered_told (Err fault) told = told fault refl

found_told : {A : Type 0} (given : Result A EntryError) → ((error : EntryError) → given ≡ Err error → error ≢ entering.NoMemory) → (found : Result A Refusal) → found ≡ entered given → IsToldIn found
found_told {A = A} given told found is = subst (λ (f : Result A Refusal). IsToldIn f) (sym is) (entered_told given told)

posed_told : (posed : AnalysisInputs) (found : Result AnalysisInputs Refusal) → found ≡ Ok posed → IsToldIn found
posed_told posed found is = subst (λ (f : Result AnalysisInputs Refusal). IsToldIn f) (sym is) tt

measured_told : (base : BaseName) (posed : AnalysisInputs) (found : Outcome) → MeasureOf base posed found → IsToldIn found
measured_told base posed (Ok answer) is = tt
measured_told base posed (Err refusal) is = task_told posed.image (tasks.measure (problem_made posed is.machine)) base refusal is.measured

summary_told : (count : ℕ) (posed : AnalysisInputs) (start : State) (answer : Answer) (found : Outcome) → SummaryOf count posed start answer found → IsToldIn found
summary_told count posed start answer (Ok found) is = tt
summary_told count posed start (text measured) (Err refusal) is = absurd is
summary_told count posed start (undecodable measured) (Err refusal) is = absurd is
summary_told count posed start (calls_ended measured) (Err refusal) is = absurd is

made_told : (request : StressRequest) (found : Result AnalysisInputs Refusal) → MadeOf request found → IsToldIn found
made_told request =
    then_told (Specifies Machine power_pc_text) _ (specified_told Machine power_pc_text) (λ spec.
    then_told (Images Big (made_code request ∷ [])) _ (images_told Big (made_code request ∷ [])) (λ image.
    then_told (Enters spec entry_text) _ (found_told (read spec entry_text) (entry_told spec entry_text)) (λ entry. posed_told (record { spec = spec; image = image; entry = entry }))))

stress_told : (request : StressRequest) (found : Outcome) → StressSteps request found → IsToldIn found
stress_told request =
    then_told (MadeOf request) _ (made_told request) (λ posed.
    then_told (StartOf posed) _ (found_told (state_in posed.spec (read posed.spec start_text)) (start_told posed.spec start_text)) (λ start.
    then_told (MeasureOf request.base posed) (SummaryOf request.count posed start) (measured_told request.base posed) (summary_told request.count posed start)))

-- ---- whatever is asked for

-- what work on a table may come to
pub work_told : (what : Option Request) (refusal : Refusal) → MayComeTo what (Err refusal) → IsTold refusal
work_told None refusal is = absurd is
work_told (Some (call request)) refusal is = absurd is
work_told (Some (emulate request)) refusal is = absurd is
work_told (Some (list request)) refusal is = absurd is
work_told (Some (analyse request)) refusal is = task_told is.posed.image (task_in request (problem_in request is.posed is.analysed.machine)) request.base refusal is.analysed.analysed
work_told (Some (check request)) refusal is =
    task_told is.posed.image (check_task_in request.analysis (problem_in request.analysis is.posed is.checked.machine) is.bytes) request.analysis.base refusal is.checked.checked
work_told (Some (convert request)) refusal is = task_told is.coded.image (tasks.convert is.coded.spec is.bytes) request.base refusal is.converted
work_told (Some (slice request)) refusal is =
    task_told is.sought.posed.image (slice_task_in request.check.analysis (problem_in request.check.analysis is.sought.posed is.sliced.machine) is.bytes request.address is.sought.asked) request.check.analysis.base refusal is.sliced.sliced
work_told (Some (claims request)) refusal is =
    task_told is.posed.image (claims_task_in request.check.analysis (problem_in request.check.analysis is.posed is.claimed.machine) is.table_bytes is.claims_bytes) request.check.analysis.base refusal is.claimed.claimed
work_told (Some (stress request)) refusal is = stress_told request (Err refusal) is
