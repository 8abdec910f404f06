-- The outcomes that words may have, whatever the inputs hold.
use Rattle.std.specs.Prelude.{◌≡◌, ◌≢◌, ℕ, List, Option, Some, None, Ok, Err, Contains, IsTrue}
use Rattle.support_command_line.specs.Requests.{AnalyseRequest, CallRequest, CheckRequest, ClaimsRequest, ConvertRequest, EmulateRequest, Request, SliceRequest, StressRequest, call, emulate, analyse, check, convert, list, slice, claims, stress}
use Rattle.support_command_line.specs.Words.{asked}
use Rattle.text_faults.specs.declared.claim_error.ClaimError.{ClaimError}
use Rattle.text_faults.specs.declared.claim_error.ClaimError.TheVariants as claiming
use Rattle.concrete_function_calls.specs.Calls as calls
use Rattle.concrete_function_calls.specs.Calls.{call_end, value_line}
use Rattle.concrete_function_calls.specs.Laws.{IsWritten}
use Rattle.code_image.specs.declared.image_error.ImageError.{ImageError}
use Rattle.code_image.specs.declared.image_error.ImageError.TheVariants as imaging
use Rattle.code_image.specs.Image.{Image}
use Rattle.code_image.specs.Listing.{listing}
use Rattle.spec_ir.specs.declared.spec_error.SpecError.TheVariants as checker
use Rattle.spec_ir.specs.Specification.{Spec}
use Rattle.state_text.specs.declared.entry_error.EntryError.{EntryError}
use Rattle.state_text.specs.declared.entry_error.EntryError.TheVariants as entering
use Rattle.syntax_lexer.specs.declared.lex_error.LexError.TheVariants as lexer
use Rattle.syntax_parser.specs.declared.ParseError.TheVariants as parser
use Rattle.semantics_values.specs.States.{State}
use Rattle.semantics_values.specs.Values.{Val}
use Rattle.text_faults.specs.declared.table_error.TableError.{TableError}
use Rattle.text_faults.specs.declared.table_error.TableError.TheVariants as tabling
use Rattle.program_common.specs.declared.rejection.Rejection.{Rejection}
use Rattle.program_common.specs.declared.spec_fault.SpecFault.{SpecFault}
use Rattle.program_common.specs.declared.spec_fault.SpecFault.TheVariants.{Checking, Lexing, Parsing}
use Rattle.program_common.specs.declared.status.Status.{Status}
use Rattle.program_common.specs.Outcome as o
use Rattle.program_common.specs.Outcome.{Answer, Outcome, line_of, status_of, text}
use Rattle.program_machine.specs.Running.{IsRunOf}
use Rattle.program_analyses.specs.Steps.{AnalysisOf, CheckOf, ClaimsOf, ConversionOf, SliceOf}
use Rattle.program_analyses.specs.StressSteps.{StressSteps}
use Rattle.text_slices.specs.Asked as cells
use Rattle.program_machine.specs.Inputs.{CodeInputs, AnalysisInputs, SliceInputs}
use Rattle.program_run.specs.Words.{has_code, has_entry, names_in}

-- The answer is the line of a value.
pub record IsValue (answer : Answer) : Type 0 where
  pub value : Val
  pub written : IsWritten value
  pub line : answer ≡ text (value_line value)

-- It tells of a run of a machine.
pub record IsRun (request : EmulateRequest) (answer : Answer) : Type 0 where
  pub spec : Spec
  pub image : Image
  pub start : State
  pub runs : IsRunOf spec image request.calls request.steps start answer

-- The outcome is that of an analysis of a machine.
pub record IsAnalysed (request : AnalyseRequest) (outcome : Outcome) : Type 0 where
  pub posed : AnalysisInputs
  pub analysed : AnalysisOf request posed outcome

-- It is that of the check of a text.
pub record IsChecked (request : CheckRequest) (outcome : Outcome) : Type 0 where
  pub posed : AnalysisInputs
  pub bytes : List ℕ
  pub checked : CheckOf request.analysis posed bytes outcome

-- It is that of a text that is written anew.
pub record IsConverted (request : ConvertRequest) (outcome : Outcome) : Type 0 where
  pub coded : CodeInputs
  pub bytes : List ℕ
  pub converted : ConversionOf request.base coded bytes outcome

-- It is that of the slice of a text.
pub record IsSliced (request : SliceRequest) (outcome : Outcome) : Type 0 where
  pub sought : SliceInputs
  pub bytes : List ℕ
  pub sliced : SliceOf request.check.analysis sought request.address bytes outcome

-- It is that of claims, which are a text, on another.
pub record AreClaimed (request : ClaimsRequest) (outcome : Outcome) : Type 0 where
  pub posed : AnalysisInputs
  pub table_bytes : List ℕ
  pub claims_bytes : List ℕ
  pub claimed : ClaimsOf request.check.analysis posed table_bytes claims_bytes outcome

-- It is a listing of code.
pub record IsListing (answer : Answer) : Type 0 where
  pub spec : Spec
  pub image : Image
  pub lists : answer ≡ text (listing spec image)

-- What is asked for may have this answer.
abbrev pub Answers : Option Request → Answer → Type 0
Answers None answer = ⊥
Answers (Some (call request)) answer = IsValue answer
Answers (Some (emulate request)) answer = IsRun request answer
Answers (Some (analyse request)) answer = IsAnalysed request (Ok answer)
Answers (Some (check request)) answer = IsChecked request (Ok answer)
Answers (Some (convert request)) answer = IsConverted request (Ok answer)
Answers (Some (list request)) answer = IsListing answer
Answers (Some (slice request)) answer = IsSliced request (Ok answer)
Answers (Some (claims request)) answer = AreClaimed request (Ok answer)
Answers (Some (stress request)) answer = StressSteps request (Ok answer)

-- Work on a table is asked for, or a stress, and may come to this.
abbrev pub MayComeTo : Option Request → Outcome → Type 0
MayComeTo None outcome = ⊥
MayComeTo (Some (analyse request)) outcome = IsAnalysed request outcome
MayComeTo (Some (check request)) outcome = IsChecked request outcome
MayComeTo (Some (convert request)) outcome = IsConverted request outcome
MayComeTo (Some (slice request)) outcome = IsSliced request outcome
MayComeTo (Some (claims request)) outcome = AreClaimed request outcome
MayComeTo (Some (stress request)) outcome = StressSteps request outcome
MayComeTo (Some _) outcome = ⊥

-- A function of a specification does not take the numbers of a call.
abbrev pub TakesNoSuch : CallRequest → Type 0
TakesNoSuch request = (spec : Spec) × (call_end spec request.calls request.fun request.numbers ≡ calls.bad_words)

-- The states of a specification do not have the cell of a slice.
abbrev pub HasNoSuch : SliceRequest → Type 0
HasNoSuch request = (spec : Spec) × (cells.asked spec request.cell ≡ None)

-- The words may be bad: they ask for nothing, or what they ask for is not there.
abbrev pub MayBeBad : Option Request → Type 0
MayBeBad None = Unit {0}
MayBeBad (Some (call request)) = TakesNoSuch request
MayBeBad (Some (slice request)) = HasNoSuch request
MayBeBad (Some _) = ⊥

-- The fault is one of a source: its line is not empty, as that of want of memory is.
abbrev pub IsOfSource : SpecFault → Type 0
IsOfSource (Lexing error) = error ≢ lexer.NoMemory
IsOfSource (Parsing error) = error ≢ parser.NoMemory
IsOfSource (Checking error) = error ≢ checker.NoMemory

-- An outcome of what is asked for. Want of memory is none: each fault that is refused has a line.
pub data IsPossible (what : Option Request) : Outcome → Type 0 where
  answered : {answer : Answer} → Answers what answer → IsPossible what (Ok answer)
  bad_words : MayBeBad what → IsPossible what (Err o.bad_words)
  cannot_read : {name : List ℕ} → Contains (names_in what) name → IsPossible what (Err (o.cannot_read name))
  too_long : {name : List ℕ} → Contains (names_in what) name → IsPossible what (Err (o.too_long name))
  spec_refused : {fault : SpecFault} → IsOfSource fault → IsPossible what (Err (o.spec_refused fault))
  code_refused : {fault : ImageError} → IsTrue (has_code what) → fault ≢ imaging.NoMemory → IsPossible what (Err (o.code_refused fault))
  entry_refused : {fault : EntryError} → IsTrue (has_entry what) → fault ≢ entering.NoMemory → IsPossible what (Err (o.entry_refused fault))
  calls_spent : IsPossible what (Err o.calls_spent)
  undecodable_at : {at word : ℕ} → MayComeTo what (Err (o.undecodable_at at word)) → IsPossible what (Err (o.undecodable_at at word))
  too_many_targets : {at : ℕ} {shown : List ℕ} → MayComeTo what (Err (o.too_many_targets at shown)) → IsPossible what (Err (o.too_many_targets at shown))
  table_refused : {fault : TableError} → MayComeTo what (Err (o.table_refused fault)) → fault ≢ tabling.NoMemory → IsPossible what (Err (o.table_refused fault))
  claims_refused : {fault : ClaimError} → MayComeTo what (Err (o.claims_refused fault)) → fault ≢ claiming.NoMemory → IsPossible what (Err (o.claims_refused fault))
  rejected : {rejection : Rejection} → MayComeTo what (Err (o.rejected rejection)) → IsPossible what (Err (o.rejected rejection))

-- A text is a line of this status for these words.
pub record IsLineOf (words : List (List ℕ)) (status : Status) (text : List ℕ) : Type 0 where
  pub outcome : Outcome
  pub possible : IsPossible (asked words) outcome
  pub has_status : status ≡ status_of outcome
  pub has_line : text ≡ line_of outcome
