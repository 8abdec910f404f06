-- What a run of the emulator answers.
use Rattle.std.specs.Prelude.{◌≡◌, ℕ, Option, Some, None}
use Rattle.spec_ir.specs.declared.spec.Machine.{Machine}
use Rattle.spec_ir.specs.Specification.{Spec}
use Rattle.state_text.specs.declared.stop.Stop.{Stop}
use Rattle.state_text.specs.declared.stop.Stop.TheVariants.{Bound, Left, Undecodable, Turns}
use Rattle.semantics_values.specs.States.{State}
use Rattle.semantics_values.specs.Types.{environment_of}
use Rattle.semantics_values.specs.Views.{state}
use Rattle.semantics.specs.Runs as r
use Rattle.semantics.specs.Runs.{Ended, after}
use Rattle.semantics_laws.specs.KeptTypes.{IsTypedState}
use Rattle.concrete_emulator.specs.Laws.{AllAscend, IsSameState}
use Rattle.concrete_emulator.specs.declared.runs.EmulatedRun.{EmulatedRun}
use Rattle.concrete_emulator.specs.declared.runs.Run.{Run}
use Rattle.concrete_emulator.specs.declared.runs.Run.TheVariants as run

-- why a run ended, at a counter: it names the address and the word, where there are some
abbrev pub stop_at : ℕ → r.Stop → Option Stop
stop_at pc r.Stop.bound = Some Bound
stop_at pc r.Stop.left = Some Left
stop_at pc (r.Stop.undecodable word) = Some (Undecodable pc word)
stop_at pc r.Stop.turns = Some (Turns pc)
stop_at pc r.Stop.wrong = None

-- An answer is the end of a run: its last state, the number of steps that were done, and why it ended. Maps of the state may list other
-- cells than those of the run's, and have the same cell at each key; their keys ascend.
pub record IsEnd (end : Ended) (answer : EmulatedRun) : Type 0 where
  pub last : IsSameState (state answer.state) end.state
  pub ascending : AllAscend (state answer.state).parts
  pub done : answer.done ≡ end.done
  pub stop : stop_at end.state.pc end.stop ≡ Some answer.stop

-- The same, but that a deep step leaves no state: the number of steps before it.
abbrev pub IsRun : Ended → Run → Type 0
IsRun end (run.Ended answer) = IsEnd end answer
IsRun end (run.OutOfFuel done) = (end.done ≡ done) × (end.stop ≡ r.Stop.turns)

-- A state has the type of the machine's states.
abbrev pub IsStateOf : Spec → State → Type 0
IsStateOf spec s = (machine : Machine) → spec.machine ≡ Some machine → IsTypedState (environment_of spec) machine.state s

-- An answer is the end of the run of a machine.
abbrev pub IsEmulated : Spec → (code : ℕ → Option ℕ) → (turns bound : ℕ) → State → EmulatedRun → Type 0
IsEmulated spec code turns bound start answer = (machine : Machine) → spec.machine ≡ Some machine → IsEnd (after spec machine code turns bound start) answer
