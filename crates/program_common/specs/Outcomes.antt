-- How the code's values say what a run comes to.
use Rattle.std.specs.Prelude.{Result, Ok, Err}
use Rattle.std.specs.String.{string_bytes}
use Rattle.support_command_line.specs.declared.words_error.WordsError.{WordsError}
use Rattle.support_command_line.specs.declared.words_error.WordsError.TheVariants as words
use Rattle.syntax_lexer.specs.declared.lex_error.LexError.{LexError}
use Rattle.syntax_lexer.specs.declared.lex_error.LexError.TheVariants as lexing
use Rattle.syntax_parser.specs.declared.ParseError.{ParseError}
use Rattle.syntax_parser.specs.declared.ParseError.TheVariants as parsing
use Rattle.spec_ir.specs.declared.spec_error.SpecError.{SpecError}
use Rattle.spec_ir.specs.declared.spec_error.SpecError.TheVariants as checking
use Rattle.code_image.specs.declared.image_error.ImageError.{ImageError}
use Rattle.code_image.specs.declared.image_error.ImageError.TheVariants as imaging
use Rattle.state_text.specs.declared.entry_error.EntryError.{EntryError}
use Rattle.state_text.specs.declared.entry_error.EntryError.TheVariants as entering
use Rattle.text_faults.specs.declared.table_error.TableError.{TableError}
use Rattle.text_faults.specs.declared.table_error.TableError.TheVariants as reading
use Rattle.text_faults.specs.declared.claim_error.ClaimError.{ClaimError}
use Rattle.text_faults.specs.declared.claim_error.ClaimError.TheVariants as claiming
use Rattle.program_common.specs.declared.outcome.Answer as code-answer
use Rattle.program_common.specs.declared.outcome.Answer.TheVariants as a
use Rattle.program_common.specs.declared.outcome.Halt.{Halt}
use Rattle.program_common.specs.declared.outcome.Halt.TheVariants.{Refused, NoMemory}
use Rattle.program_common.specs.declared.outcome.Outcome as code-outcome
use Rattle.program_common.specs.declared.outcome.Refusal as code-refusal
use Rattle.program_common.specs.declared.outcome.Refusal.TheVariants.{BadWords, CannotRead, TooLong, SpecRefused, CodeRefused, EntryRefused, CallsSpent, UndecodableAt, TooManyTargets, TableRefused, ClaimsRefused, Rejected}
use Rattle.program_common.specs.declared.outcome.Outcome.TheVariants as o
use Rattle.program_common.specs.declared.spec_fault.SpecFault.TheVariants.{Lexing, Parsing, Checking}
use Rattle.program_common.specs.Outcome.{Answer, Outcome, Refusal, text, undecodable, calls_ended, bad_words, cannot_read, too_long, spec_refused, code_refused, entry_refused, calls_spent, undecodable_at, too_many_targets, table_refused, claims_refused, rejected}

abbrev pub answer_of : code-answer.Answer → Answer
answer_of (a.Text bytes) = text bytes.items
answer_of (a.Undecodable bytes) = undecodable bytes.items
answer_of (a.CallsEnded bytes) = calls_ended bytes.items

abbrev pub refusal_of : code-refusal.Refusal → Refusal
refusal_of BadWords = bad_words
refusal_of (CannotRead name) = cannot_read name.now
refusal_of (TooLong name) = too_long name.now
refusal_of (SpecRefused fault) = spec_refused fault
refusal_of (CodeRefused fault) = code_refused fault
refusal_of (EntryRefused fault) = entry_refused fault
refusal_of CallsSpent = calls_spent
refusal_of (UndecodableAt at word) = undecodable_at at word
refusal_of (TooManyTargets at shown) = too_many_targets at (string_bytes shown)
refusal_of (TableRefused fault) = table_refused fault
refusal_of (ClaimsRefused fault) = claims_refused fault
refusal_of (Rejected rejection) = rejected rejection

abbrev pub outcome_of : code-outcome.Outcome → Outcome
outcome_of (o.Answered answer) = Ok (answer_of answer)
outcome_of (o.Refused refusal) = Err (refusal_of refusal)

-- The step may stop so, where memory lasts.
abbrev pub Stops : {A : Type 0} → (Result A Refusal → Type 0) → Halt → Type 0
Stops step (Refused refusal) = step (Err (refusal_of refusal))
Stops step NoMemory = Unit {0}

-- The answer, seen so, is one that the step may give, or it stops.
abbrev pub Gives : {A B : Type 0} → (Result B Refusal → Type 0) → (A → B) → Result A Halt → Type 0
Gives step seen (Ok found) = step (Ok (seen found))
Gives step seen (Err halt) = Stops step halt

-- why words ask for nothing
abbrev pub halt_of_words : WordsError → Halt
halt_of_words words.BadWords = Refused BadWords
halt_of_words words.NoMemory = NoMemory

-- why a source without tokens has no specification
abbrev pub halt_of_lexing : LexError → Halt
halt_of_lexing lexing.NoMemory = NoMemory
halt_of_lexing error = Refused (SpecRefused (Lexing error))

-- and why one without a tree has none
abbrev pub halt_of_parsing : ParseError → Halt
halt_of_parsing parsing.NoMemory = NoMemory
halt_of_parsing error = Refused (SpecRefused (Parsing error))

-- and why one that breaks a static rule has none
abbrev pub halt_of_checking : SpecError → Halt
halt_of_checking checking.NoMemory = NoMemory
halt_of_checking error = Refused (SpecRefused (Checking error))

-- why segments are no image
abbrev pub halt_of_imaging : ImageError → Halt
halt_of_imaging imaging.NoMemory = NoMemory
halt_of_imaging error = Refused (CodeRefused error)

-- why a text is no entry of one state
abbrev pub halt_of_entry : EntryError → Halt
halt_of_entry entering.NoMemory = NoMemory
halt_of_entry error = Refused (EntryRefused error)

-- why a text is no table
abbrev pub halt_of_table : TableError → Halt
halt_of_table reading.NoMemory = NoMemory
halt_of_table error = Refused (TableRefused error)

-- why a text is no claims
abbrev pub halt_of_claims : ClaimError → Halt
halt_of_claims claiming.NoMemory = NoMemory
halt_of_claims error = Refused (ClaimsRefused error)
