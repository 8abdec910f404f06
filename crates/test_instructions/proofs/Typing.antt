-- The state before a step has the type of the machine's states.
use Rattle.std.proofs.Common.{◌≡◌, ℕ, ◌<◌, ◌^◌, List, subst}
use Rattle.std.specs.Prelude.{Result, Ok, Err, IfOk}
use Rattle.spec_ir.specs.Specification.{Spec}
use Rattle.semantics_values.specs.declared.value.State.{State as StateOf}
use Rattle.semantics_values.specs.States.{State}
use Rattle.semantics_values.specs.Views.{state}
use Rattle.semantics_laws.specs.Accepted.{IsAccepted}
use Rattle.semantics_laws.proofs.Kept.{entry_states_have_their_type}
use Rattle.state_cell_text.specs.Places.{state_fields}
use Rattle.state_text.specs.declared.entry_error.EntryError.{EntryError}
use Rattle.state_text.specs.OneState.{Agrees, one_state, types_behind}
use Rattle.state_text.specs.Reading.{Entry, read}
use Rattle.concrete_emulator.specs.Ends.{IsStateOf}
use Rattle.state_entry_laws.proofs.Accepted.{read_states_are_described}
use Rattle.test_instructions.proofs.Cells.{fields_of_states}

module _ (spec : Spec) (text : List ℕ) (entry : Entry) (ok : IsAccepted spec) (is : read spec text ≡ Ok entry) where
  typed : (s : State) → one_state spec entry ≡ Ok s → IsStateOf spec s
  typed s one machine e =
      let described = read_states_are_described spec machine text entry s ok e is one in
      entry_states_have_their_type spec machine (types_behind (state_fields spec)) entry.pc entry.lines s ok e (fields_of_states spec machine ok e)
      (subst (λ (n : ℕ). n < 2 ^ 32) described.0.counter described.1) described.0

  -- what the code gives of an entry that is read
  pub result_typed : (result : Result StateOf EntryError) → Agrees result (one_state spec entry) → IfOk result (λ s. IsStateOf spec (state s))
  result_typed (Ok s) one = typed (state s) one
  result_typed (Err e) one = tt
