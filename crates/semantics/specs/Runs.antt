-- Runs of a machine: a step, and the state after n steps or why there is none.
use Rattle.std.specs.Prelude.{ℕ, zero, suc, Option, Some, None, List, [], ◌∷◌, length}
use Rattle.base_trait.specs.Uses.{Read}
use Rattle.spec_ir.specs.declared.spec.Machine.{Machine}
use Rattle.spec_ir.specs.Specification.{Spec}
use Rattle.semantics_values.specs.Values.{Val, Vals, word, made, val_then, val_list}
use Rattle.semantics_values.specs.States.{State, value_of}
use Rattle.semantics.specs.Outcomes as o
use Rattle.semantics.specs.Outcomes.{Outcome}
use Rattle.semantics.specs.Direct.{run}
use Rattle.semantics.specs.Decode.{decoded}

-- The direct meaning of a call of function i by an instruction at an address, where each activation has d
-- turns. Calls of other groups are less deep than there are functions.
abbrev pub meaning : Spec → ℕ → ℕ → ℕ → List Val → List Read → Outcome Val
meaning spec a d i args l = run spec a d (suc (length spec.funs)) i args l

-- What a step gives: the next state with the reads; or its counter is not the address of a code word; or that word
-- has no decoding; or the step is deep under its bound on turns; or it has no type.
pub data Stepped : Type 0 where
  steps_to : State → List Read → Stepped
  left : Stepped
  undecodable : ℕ → Stepped
  deep : Stepped
  wrong : Stepped

-- the state that a value is: the counter is the first field of a constructor
abbrev pub state_from : Vals → List Read → Stepped
state_from (val_then (word w pc) parts) l = steps_to (record { pc = pc; parts = val_list parts }) l
state_from _ l = wrong

abbrev pub stepped_of : Outcome Val → Stepped
stepped_of (o.gives (made ty case parts) l) = state_from parts l
stepped_of (o.gives _ l) = wrong
stepped_of (o.deep i) = deep
stepped_of o.wrong = wrong

-- `code` is the code word at an address, where there is one
module _ (spec : Spec) (machine : Machine) (code : ℕ → Option ℕ) (d : ℕ) where
  abbrev pub executed : State → ℕ → Option Val → Stepped
  executed s code_word None = undecodable code_word
  executed s code_word (Some instruction) = stepped_of (meaning spec s.pc d machine.interp (instruction ∷ value_of machine.state s ∷ []) [])

  abbrev pub fetched : State → Option ℕ → Stepped
  fetched s None = left
  fetched s (Some code_word) = executed s code_word (decoded machine.instr spec.rows code_word)

  -- One step from a state.
  abbrev pub step : State → Stepped
  step s = fetched s (code s.pc)

-- Why a run ends: its bound on steps, or what stopped a step.
pub data Stop : Type 0 where
  bound : Stop
  left : Stop
  undecodable : ℕ → Stop
  turns : Stop
  wrong : Stop

-- a run's last state, the number of steps done, and why it ended
pub record Ended : Type 0 where
  pub state : State
  pub done : ℕ
  pub stop : Stop

module _ (spec : Spec) (machine : Machine) (code : ℕ → Option ℕ) (d : ℕ) where
  -- what a step comes to after `done` steps: the run goes on, or it ends with the state before the step
  abbrev pub goes_on : (go_on : State → Ended) → ℕ → State → Stepped → Ended
  goes_on go_on done s (steps_to next reads) = go_on next
  goes_on go_on done s left = record { state = s; done = done; stop = left }
  goes_on go_on done s (undecodable code_word) = record { state = s; done = done; stop = undecodable code_word }
  goes_on go_on done s deep = record { state = s; done = done; stop = turns }
  goes_on go_on done s wrong = record { state = s; done = done; stop = wrong }

  -- the run of at most n further steps from a state, after `done` steps
  abbrev pub run_from : ℕ → ℕ → State → Ended
  run_from zero done s = record { state = s; done = done; stop = bound }
  run_from (suc n) done s = goes_on (run_from n (suc done)) done s (step spec machine code d s)

  -- The state after n steps from s0, or the first stop with the state before it and the number of steps done.
  abbrev pub after : ℕ → State → Ended
  after n s0 = run_from n 0 s0
