-- The steps of a run, one after another.
use Rattle.std.specs.Prelude.{◌≡◌, Option, Some, None, Ok, Err}
use Rattle.support_command_line.specs.Requests.{CallRequest, Request, call, emulate, analyse, check, convert, list, slice, claims, stress}
use Rattle.spec_ir.specs.declared.spec.SpecUse.TheVariants.{Library}
use Rattle.concrete_function_calls.specs.Calls as calls
use Rattle.concrete_function_calls.specs.Calls.{End, call_end, value, value_line, spent}
use Rattle.program_common.specs.Outcome.{Outcome, bad_words, calls_spent, text}
use Rattle.program_common.specs.Reading.{Reading}
use Rattle.program_common.specs.Sources.{SourceOf, Specifies}
use Rattle.program_common.specs.Steps.{Then}
use Rattle.program_machine.specs.Steps.{EmulateSteps, ListSteps}
use Rattle.program_analyses.specs.StressSteps.{StressSteps}
use Rattle.program_analyses.specs.Steps.{AnalyseSteps, CheckSteps, ClaimsSteps, ConvertSteps, SliceSteps}

-- what is answered for the end of a call
abbrev pub answered : End → Outcome
answered (value v) = Ok (text (value_line v))
answered calls.bad_words = Err bad_words
answered spent = Err calls_spent

-- `call`: the specification is read; it is parsed and checked as a library; its function is called; the value is written
abbrev pub CallSteps : Reading → CallRequest → Outcome → Type 0
CallSteps reads request =
    Then (SourceOf reads request.spec) (λ source.
    Then (Specifies Library source) (λ spec outcome.
    outcome ≡ answered (call_end spec request.calls request.fun request.numbers)))

-- The outcome of what is asked for, where inputs are read so.
abbrev pub Steps : Reading → Option Request → Outcome → Type 0
Steps reads None outcome = outcome ≡ Err bad_words
Steps reads (Some (call request)) outcome = CallSteps reads request outcome
Steps reads (Some (emulate request)) outcome = EmulateSteps reads request outcome
Steps reads (Some (analyse request)) outcome = AnalyseSteps reads request outcome
Steps reads (Some (check request)) outcome = CheckSteps reads request outcome
Steps reads (Some (convert request)) outcome = ConvertSteps reads request outcome
Steps reads (Some (list request)) outcome = ListSteps reads request outcome
Steps reads (Some (slice request)) outcome = SliceSteps reads request outcome
Steps reads (Some (claims request)) outcome = ClaimsSteps reads request outcome
Steps reads (Some (stress request)) outcome = StressSteps request outcome
