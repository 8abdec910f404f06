-- The run of a machine.
use Rattle.std.specs.Prelude.{◌≡◌, ℕ, List, Option, Some, Result, Ok, Err}
use Rattle.spec_ir.specs.declared.spec.Machine.{Machine}
use Rattle.spec_ir.specs.Specification.{Spec}
use Rattle.semantics_values.specs.States.{State}
use Rattle.semantics.specs.Runs.{Ended, after}
use Rattle.code_image.specs.Image.{Image, code_at}
use Rattle.state_text.specs.declared.stop.Stop.{Stop}
use Rattle.state_text.specs.declared.stop.Stop.TheVariants.{Bound, Left, Undecodable, Turns}
use Rattle.state_text.specs.Stops.{stopped_text}
use Rattle.concrete_emulator.specs.Ends.{stop_at}
use Rattle.program_common.specs.Outcome.{Answer, Outcome, text, undecodable, calls_ended}

-- the answer of a machine that stopped so
abbrev pub answer_of : Stop → List ℕ → Answer
answer_of Bound bytes = text bytes
answer_of Left bytes = text bytes
answer_of (Undecodable at word) bytes = undecodable bytes
answer_of (Turns at) bytes = calls_ended bytes

-- the last state of a run of a machine from a state, of at most so many steps, where an activation has so many turns
abbrev pub end_of : Spec → Machine → Image → (turns bound : ℕ) → State → Ended
end_of spec machine image turns bound start = after spec machine (code_at image) turns bound start

-- The answer tells why the run ended, after how many steps, and its last state.
pub record TellsOf (spec : Spec) (end : Ended) (answer : Answer) : Type 0 where
  pub stop : Stop
  pub why : stop_at end.state.pc end.stop ≡ Some stop
  pub told : answer ≡ answer_of stop (stopped_text spec stop end.done end.state)

-- The answer tells of the run of the machine.
pub record IsRunOf (spec : Spec) (image : Image) (turns bound : ℕ) (start : State) (answer : Answer) : Type 0 where
  pub machine : Machine
  pub is_machine : spec.machine ≡ Some machine
  pub tells : TellsOf spec (end_of spec machine image turns bound start) answer

-- A machine runs, and is never refused.
abbrev pub Runs : Spec → Image → (turns bound : ℕ) → State → Outcome → Type 0
Runs spec image turns bound start (Ok answer) = IsRunOf spec image turns bound start answer
Runs spec image turns bound start (Err _) = ⊥
