-- The chain of a call, as far as it comes.
use Rattle.std.proofs.Common.{◌≡◌, ℕ, List}
use Rattle.std.specs.Prelude.{Result, Ok}
use Rattle.support_command_line.specs.Requests.{CallRequest}
use Rattle.spec_ir.specs.declared.spec.SpecUse.TheVariants.{Library}
use Rattle.spec_ir.specs.Specification.{Spec}
use Rattle.concrete_function_calls.specs.Calls.{call_end}
use Rattle.program_common.specs.declared.outcome.Halt.{Halt}
use Rattle.program_common.specs.Outcome.{Answer, Outcome, Refusal}
use Rattle.program_common.specs.Outcomes.{Stops}
use Rattle.program_common.specs.Reading.{Reading}
use Rattle.program_common.specs.Sources.{SourceOf, Specifies}
use Rattle.program_common.specs.Steps.{Then, goes_on}
use Rattle.program_common.proofs.Steps.{first_stops, next_stops}
use Rattle.program_run.specs.Steps.{CallSteps, answered}

module _ (request : CallRequest) where
  -- what is answered for a specification
  abbrev pub Ended : Spec → Result Answer Refusal → Type 0
  Ended spec outcome = outcome ≡ answered (call_end spec request.calls request.fun request.numbers)

  -- and for a source
  abbrev pub Called : List ℕ → Result Answer Refusal → Type 0
  Called source = Then (Specifies Library source) Ended

module _ (reads : Reading) (request : CallRequest) where
  -- without a source
  pub no_source : (halt : Halt) → Stops (SourceOf reads request.spec) halt → Stops (CallSteps reads request) halt
  no_source halt stops = first_stops (SourceOf reads request.spec) (Called request) halt stops

  -- without a specification
  pub no_specification : (halt : Halt) (source : List ℕ) → SourceOf reads request.spec (Ok source) → Stops (Specifies Library source) halt → Stops (CallSteps reads request) halt
  no_specification halt source read stops =
      next_stops (SourceOf reads request.spec) (Called request) source halt read (first_stops (Specifies Library source) (Ended request) halt stops)

  -- with both
  pub called : (source : List ℕ) → SourceOf reads request.spec (Ok source) → (spec : Spec) → Specifies Library source (Ok spec) → (outcome : Outcome)
      → outcome ≡ answered (call_end spec request.calls request.fun request.numbers) → CallSteps reads request outcome
  called source read spec specified outcome is = goes_on read (goes_on specified is)
