-- Something is owed for all words.
use Rattle.std.proofs.Common.{Option, Some, None, refl}
use Rattle.std.specs.Prelude.{Err}
use Rattle.support_command_line.specs.Requests.{Request, call, emulate, analyse, check, convert, list, slice, claims, stress}
use Rattle.support_command_line.specs.Words.{asked}
use Rattle.concrete_function_calls.specs.Calls.{call_end}
use Rattle.spec_ir.specs.declared.spec.SpecUse.TheVariants.{Library}
use Rattle.program_common.specs.Outcome.{bad_words, line_of, status_of}
use Rattle.program_common.specs.Reading.{Held, Holds}
use Rattle.program_common.specs.Sources.{SourceOf, Specifies}
use Rattle.program_common.proofs.OneSource.{some_source, some_specified}
use Rattle.program_common.proofs.Steps.{IsTotal, total}
use Rattle.program_machine.proofs.Whole.{emulate_has_some, list_has_some}
use Rattle.program_analyses.proofs.StressOne.{stress_has_some}
use Rattle.program_analyses.proofs.One.{analyse_has_some, check_has_some, claims_has_some, convert_has_some, slice_has_some}
use Rattle.program_run.specs.Laws.{SomeAnswer}
use Rattle.program_run.specs.Steps.{Steps, answered}
use Rattle.program_run.proofs.Chain.{Called, Ended}
use Rattle.program_run.proofs.Parts.{AreFew, few_wanted}

some_asked : (held : Held) (what : Option Request) → AreFew what → IsTotal (Steps (Holds held) what)
some_asked held None few = (Err bad_words, refl)
some_asked held (Some (call request)) few =
    total (SourceOf (Holds held) request.spec) (Called request) (some_source held request.spec) (λ source holds.
    total (Specifies Library source) (Ended request) (some_specified Library source) (λ spec specified.
    (answered (call_end spec request.calls request.fun request.numbers), refl)))
some_asked held (Some (emulate request)) few = emulate_has_some held request
some_asked held (Some (analyse request)) few = analyse_has_some held request few
some_asked held (Some (check request)) few = check_has_some held request few
some_asked held (Some (convert request)) few = convert_has_some held request few
some_asked held (Some (list request)) few = list_has_some held request
some_asked held (Some (slice request)) few = slice_has_some held request few.0
some_asked held (Some (claims request)) few = claims_has_some held request few
some_asked held (Some (stress request)) few = stress_has_some request

pub some_answer : SomeAnswer
some_answer words held =
    let found = some_asked held (asked words) (few_wanted words) in
    (status_of found.0, line_of found.0, record { outcome = found.0; owed = found.1; has_status = refl; has_line = refl })
