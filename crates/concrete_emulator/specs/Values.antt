-- States as values, and what a step of the code comes to.
use Rattle.std.specs.Prelude.{◌≡◌, ℕ, ◌^◌, nat_lt, Option, Some, None, List, if◌then◌else◌}
use Rattle.base_trait.specs.Uses.{Read}
use Rattle.spec_ir.specs.Specification.{Spec}
use Rattle.semantics_values.specs.Values.{Val, Vals, word, made, val_then, val_list}
use Rattle.semantics_values.specs.States.{State}
use Rattle.semantics.specs.Runs as r
use Rattle.abstract_value.specs.View.{abs}
use Rattle.concrete_emulator.specs.declared.step.MachineStep.{MachineStep}
use Rattle.concrete_emulator.specs.declared.step.MachineStep.TheVariants.{To, Left, Undecodable, OutOfFuel}
use Rattle.concrete_emulator.specs.States.{Shows}

-- the state of a constructor's fields, whose first is a counter of at most 32 bits
abbrev pub state_of_parts : Vals → Option State
state_of_parts (val_then (word w pc) parts) = if nat_lt pc (2 ^ 32) then Some (record { pc = pc; parts = val_list parts }) else None
state_of_parts _ = None

abbrev pub state_of : Val → Option State
state_of (made ty case parts) = state_of_parts parts
state_of _ = None

-- A step from a state comes to this.
module _ (spec : Spec) (ty : ℕ) (s : State) where
  abbrev pub IsStepped : MachineStep → r.Stepped → Type 0
  IsStepped (To next) step = (n : State) × (reads : List Read) × (step ≡ r.steps_to n reads) × Shows spec ty n (abs next)
  IsStepped (Left same) step = Shows spec ty s (abs same) × (step ≡ r.left)
  IsStepped (Undecodable same code_word) step = Shows spec ty s (abs same) × (step ≡ r.undecodable code_word)
  IsStepped OutOfFuel step = step ≡ r.deep
